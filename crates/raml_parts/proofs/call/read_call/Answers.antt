use Rattle.std.proofs.Common.{◌≡◌, ◌≤◌, ◌∙◌, ap, refl, sym, subst, length, None, Some, inr}
use Rattle.std.proofs.lemmas.Option.{slice_get_within}
use Rattle.raml_syntax.specs.Read.{program_of}
use Rattle.raml_syntax.specs.Place.{place_of}
use Rattle.refusals.specs.Ending as e
use Rattle.refusals.specs.Line.{no_names}
use Rattle.refusals.specs.declared.status.Status.TheVariants as s
use Rattle.raml_promise.specs.Outside.{store_of}
use Rattle.raml_parts.specs.Parts.{Refuses, ReadsArguments, ArgumentsRefuse, CallRefuses}
use Rattle.raml_parts.proofs.Placing.{named}
use Rattle.raml_parts.proofs.Refusing.{told_refuses}
use Rattle.raml_parts.proofs.Calling.{nameless, file_refuses, data_refuses_call}
use Rattle.raml_parts.proofs.call.read_call.Goals as goal

pub read_arguments-requires-clause-place : goal.read_arguments-requires-clause-place
read_arguments-requires-clause-place g c =
    let P = program_of c.args.typed.now in
    let name = c.args.name.now in
    let found : Some c.in-Some.place.0 ≡ place_of name P = c.in-Some.ensures ∙ ap (place_of name) (ap program_of c.program.ensures.program) in
    let is = named P name c.in-Some.place.0 found in
    slice_get_within P c.in-Some.place.0 is.0 is.1.there

pub read_arguments-requires-clause-short : goal.read_arguments-requires-clause-short
read_arguments-requires-clause-short g c = subst (λ bytes. length bytes ≤ 4194304) (sym c.deref.ensures.value) (c.in-Ok.ensures.ok (g.S.Store.faults c.args.store.now)).short

pub returns-in-Ok-read_arguments-clause-ok : goal.returns-in-Ok-read_arguments-clause-ok
returns-in-Ok-read_arguments-clause-ok g c before =
    let P = program_of c.args.typed.now in
    let name = c.args.name.now in
    let found : Some c.in-Some.place.0 ≡ place_of name P = c.in-Some.ensures ∙ ap (place_of name) (ap program_of c.program.ensures.program) in
    let is = named P name c.in-Some.place.0 found in
    record {
      place = sym found;
      bytes = c.in-Ok.bytes.items;
      within = c.in-Ok.ensures.ok before;
      reads = subst (λ bytes. ReadsArguments P c.in-Some.place.0 bytes c.in-Ok-read_arguments.args) c.deref.ensures.value c.in-Ok-read_arguments.ensures.ok;
    }

pub returns-in-Ok-clause-err : goal.returns-in-Ok-clause-err
returns-in-Ok-clause-err g c before earlier =
    let P = program_of c.args.typed.now in
    let name = c.args.name.now in
    let found : Some c.in-Some.place.0 ≡ place_of name P = c.in-Some.ensures ∙ ap (place_of name) (ap program_of c.program.ensures.program) in
    let is = named P name c.in-Some.place.0 found in
    let store = store_of (g.S.Store.holds c.args.store.now) before (g.S.Store.faults c.read_file.new.store) in
    data_refuses_call store P name c.args.file.now (c.in-Some.place.0, is.0) is.1 c.in-Ok.bytes.items (c.in-Ok.ensures.ok before) c.in-Err-read_arguments.refusal
    (subst (λ bytes. Refuses no_names (ArgumentsRefuse P c.in-Some.place.0 bytes) c.in-Err-read_arguments.refusal) c.deref.ensures.value c.in-Err-read_arguments.ensures.err)

pub returns-in-Some-clause-err : goal.returns-in-Some-clause-err
returns-in-Some-clause-err g c before earlier =
    let P = program_of c.args.typed.now in
    let name = c.args.name.now in
    let found : Some c.in-Some.place.0 ≡ place_of name P = c.in-Some.ensures ∙ ap (place_of name) (ap program_of c.program.ensures.program) in
    let is = named P name c.in-Some.place.0 found in
    let store = store_of (g.S.Store.holds c.args.store.now) before (g.S.Store.faults c.read_file.new.store) in
    file_refuses store P name c.args.file.now (c.in-Some.place.0, is.0) is.1 c.in-Err.refusal (c.in-Err.ensures.err before earlier)

pub returns-clause-err : goal.returns-clause-err
returns-clause-err g c before earlier =
    let P = program_of c.args.typed.now in
    let name = c.args.name.now in
    let none : None ≡ place_of name P = c.in-None.ensures ∙ ap (place_of name) (ap program_of c.program.ensures.program) in
    let store = store_of (g.S.Store.holds c.args.store.now) before (g.S.Store.faults c.args.store.now) in
    told_refuses no_names s.NoFunction e.NoFunction (CallRefuses store P name c.args.file.now) refl (nameless store P name c.args.file.now (sym none)) c.no_function.result (inr (c.no_function.ensures no_names))
