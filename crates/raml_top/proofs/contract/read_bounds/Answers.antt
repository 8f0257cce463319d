use Rattle.std.proofs.Common.{◌<◌, ◌^◌, length, sym, subst, arith}
use Rattle.raml_syntax.specs.Read.{program_of}
use Rattle.bound_file.specs.Answers.{AreWithin, Spells, FirstFault, OfFault}
use Rattle.bound_file.proofs.Few.{declared_are_few}
use Rattle.refusal_text.specs.declared.plain.Which.TheVariants as w
use Rattle.refusals.specs.Line.{no_names}
use Rattle.raml_promise.specs.Outside.{store_of}
use Rattle.raml_promise.specs.DeclaredBounds.{BoundsRefuse}
use Rattle.raml_parts.specs.Parts.{FileRefuses, BoundsFileRefuses}
use Rattle.raml_parts.proofs.Stepping.{refuses_map, by_file, by_bytes}
use Rattle.raml_parts.proofs.Refusing.{bounds_refuse}
use Rattle.raml_top.proofs.contract.read_bounds.Goals as goal

pub read-requires-clause-short : goal.read-requires-clause-short
read-requires-clause-short g c =
    let short = (c.in-Ok.ensures.ok (g.S.Store.faults c.args.store.now)).short in
    let few : length c.in-Ok.bytes.items < 2 ^ 31 = omega (arith, short) in
    subst (λ bytes. length bytes < 2 ^ 31) (sym c.deref.ensures.value) few

pub returns-in-Ok-read-clause-ok : goal.returns-in-Ok-read-clause-ok
returns-in-Ok-read-clause-ok g c before =
    record {
      bytes = c.in-Ok.bytes.items;
      within = c.in-Ok.ensures.ok before;
      spelled = subst (λ p. Spells (program_of p) c.args.degree c.in-Ok.bytes.items c.in-Ok-read.declared) c.program.ensures.program
          (subst (λ bytes. Spells (program_of c.program.result.now) c.args.degree bytes c.in-Ok-read.declared) c.deref.ensures.value c.in-Ok-read.ensures.spelled);
    }

pub returns-in-Ok-read-clause-few : goal.returns-in-Ok-read-clause-few
returns-in-Ok-read-clause-few g c =
    let short = (c.in-Ok.ensures.ok (g.S.Store.faults c.args.store.now)).short in
    let spelled = subst (λ bytes. Spells (program_of c.program.result.now) c.args.degree bytes c.in-Ok-read.declared) c.deref.ensures.value c.in-Ok-read.ensures.spelled in
    let fewer = declared_are_few (program_of c.program.result.now) c.args.degree c.in-Ok.bytes.items c.in-Ok-read.declared spelled in
    omega (arith, short, fewer)

pub returns-in-Ok-read-clause-within : goal.returns-in-Ok-read-clause-within
returns-in-Ok-read-clause-within g c = subst (λ p. AreWithin (program_of p) c.in-Ok-read.declared) c.program.ensures.program c.in-Ok-read.ensures.within

pub returns-in-Err-Fault-clause-err : goal.returns-in-Err-Fault-clause-err
returns-in-Err-Fault-clause-err g c before earlier =
    let store = store_of (g.S.Store.holds c.args.store.now) before (g.S.Store.faults c.read_file.new.store) in
    let P = program_of c.args.typed.now in
    let bytes = c.in-Ok.bytes.items in
    let first = subst (λ p. FirstFault (program_of p) c.args.degree bytes c.in-Err-Fault.fault) c.program.ensures.program
    (subst (λ b. FirstFault (program_of c.program.result.now) c.args.degree b c.in-Err-Fault.fault) c.deref.ensures.value
    (subst (OfFault (FirstFault (program_of c.program.result.now) c.args.degree c.deref.result.now)) c.in-Err-Fault.field-0-is c.in-Err-Fault.ensures.fault)) in
    refuses_map no_names (BoundsRefuse P c.args.degree bytes) (BoundsFileRefuses store c.args.file.now P c.args.degree) (by_bytes store w.Bounds c.args.file.now (BoundsRefuse P c.args.degree) (Spells P c.args.degree) bytes (c.in-Ok.ensures.ok before)) c.bounds_refusal.result
    (bounds_refuse P c.args.degree bytes c.in-Err-Fault.fault first c.bounds_refusal.result c.bounds_refusal.ensures)

pub returns-clause-err : goal.returns-clause-err
returns-clause-err g c before earlier =
    let store = store_of (g.S.Store.holds c.args.store.now) before (g.S.Store.faults c.read_file.new.store) in
    refuses_map no_names (FileRefuses store w.Bounds c.args.file.now) (BoundsFileRefuses store c.args.file.now (program_of c.args.typed.now) c.args.degree) (by_file store w.Bounds c.args.file.now (BoundsRefuse (program_of c.args.typed.now) c.args.degree) (Spells (program_of c.args.typed.now) c.args.degree)) c.in-Err.refusal
    (c.in-Err.ensures.err before earlier)
