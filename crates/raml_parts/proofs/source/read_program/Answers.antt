use Rattle.std.proofs.Common.{subst}
use Rattle.raml_syntax.specs.Read.{program_of}
use Rattle.refusals.specs.Line.{no_names}
use Rattle.raml_promise.specs.Outside.{store_of}
use Rattle.raml_promise.specs.Steps.{file_of, SourceRefuses, IsTyped, RefusedOf}
use Rattle.raml_parts.specs.Parts.{IsShort, FileRefuses, ProgramRefuses}
use Rattle.raml_parts.proofs.Stepping.{refuses_map, by_file}
use Rattle.raml_parts.proofs.Reading.{program_read, program_unread, program_short}
use Rattle.raml_parts.proofs.source.read_program.Goals as goal

pub typed_program-requires : goal.typed_program-requires
typed_program-requires g c =
    let store = store_of (g.S.Store.holds c.args.store.now) (g.S.Store.faults c.args.store.now) (g.S.Store.faults c.read_file.new.store) in
    let within = subst (λ which. IsShort store which c.args.file.now c.in-Ok.source.items) c.file_of.ensures (c.in-Ok.ensures.ok (g.S.Store.faults c.args.store.now)) in
    record { short = program_short c.args.whose c.in-Ok.source.items c.deref.result.now c.deref.ensures.value within.short }

pub returns-in-Ok-clause-ok : goal.returns-in-Ok-clause-ok
returns-in-Ok-clause-ok g c before =
    let store = store_of (g.S.Store.holds c.args.store.now) before (g.S.Store.faults c.read_file.new.store) in
    program_read program_of store c.args.whose c.args.file.now c.in-Ok.source.items c.deref.result.now c.deref.ensures.value
    (subst (λ which. IsShort store which c.args.file.now c.in-Ok.source.items) c.file_of.ensures (c.in-Ok.ensures.ok before)) c.typed_program.result c.typed_program.ensures.ok

pub returns-in-Ok-clause-err : goal.returns-in-Ok-clause-err
returns-in-Ok-clause-err g c before earlier =
    let store = store_of (g.S.Store.holds c.args.store.now) before (g.S.Store.faults c.read_file.new.store) in
    program_unread store c.args.whose c.args.file.now c.in-Ok.source.items c.deref.result.now c.deref.ensures.value
    (subst (λ which. IsShort store which c.args.file.now c.in-Ok.source.items) c.file_of.ensures (c.in-Ok.ensures.ok before)) c.typed_program.result c.typed_program.ensures.err

pub returns-in-Err-clause-err : goal.returns-in-Err-clause-err
returns-in-Err-clause-err g c before earlier =
    let store = store_of (g.S.Store.holds c.args.store.now) before (g.S.Store.faults c.read_file.new.store) in
    refuses_map no_names (FileRefuses store (file_of c.args.whose) c.args.file.now) (ProgramRefuses store c.args.whose c.args.file.now) (by_file store (file_of c.args.whose) c.args.file.now (λ source. RefusedOf c.args.whose (SourceRefuses source)) IsTyped) c.in-Err.refusal
    (refuses_map no_names (FileRefuses store c.file_of.result c.args.file.now) (FileRefuses store (file_of c.args.whose) c.args.file.now)
    (λ e r. subst (λ which. FileRefuses store which c.args.file.now e) c.file_of.ensures r) c.in-Err.refusal (c.in-Err.ensures.err before earlier))
