use Rattle.raml_syntax.specs.Read.{program_of}
use Rattle.annot_types.specs.Read.{certificate_of}
use Rattle.raml_promise.specs.Outside.{Sound, store_of}
use Rattle.raml_promise.specs.Steps.{OfNormal}
use Rattle.raml_promise.specs.Analysis.{OfCheck}
use Rattle.raml_promise.specs.Promise.{PrintsLines}
use Rattle.raml_parts.proofs.Stepping.{certificate_goes, certificate_refusal}
use Rattle.raml_parts.proofs.Proved.{kept_gives}
use Rattle.raml_top.proofs.commands.verification.Goals as goal

pub returns-in-Ok-normal_form-clause-gives : goal.returns-in-Ok-normal_form-clause-gives
returns-in-Ok-normal_form-clause-gives g c before earlier =
    let store = store_of (g.S.Store.holds c.args.store.now) before (g.S.Store.faults c.read_certificate.new.store) in
    let P = program_of c.args.typed.now in
    let cert = certificate_of c.in-Ok.certificate in
    certificate_goes store c.args.file.now (λ c. OfNormal P (λ N. OfCheck Sound P N c (PrintsLines Sound P N c))) cert (c.in-Ok.ensures.ok before) c.verified_lines.result
    (kept_gives c.args.typed.now c.in-Ok-normal_form.program c.in-Ok-normal_form.ensures.source c.in-Ok-normal_form.ensures.groups c.in-Ok-normal_form.ensures.normal
    (λ P N. OfCheck Sound P N cert (PrintsLines Sound P N cert)) c.verified_lines.result c.verified_lines.ensures)

pub returns-in-Err-clause-gives : goal.returns-in-Err-clause-gives
returns-in-Err-clause-gives g c before earlier =
    let store = store_of (g.S.Store.holds c.args.store.now) before (g.S.Store.faults c.read_certificate.new.store) in
    let P = program_of c.args.typed.now in
    certificate_refusal store c.args.file.now (λ c. OfNormal P (λ N. OfCheck Sound P N c (PrintsLines Sound P N c))) c.in-Err.refusal (c.in-Err.ensures.err before earlier)
