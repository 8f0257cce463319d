use Rattle.raml_syntax.specs.Read.{program_of}
use Rattle.raml_words.specs.declared.request.Rule.TheVariants as rule
use Rattle.refusal_text.specs.declared.task.Analysed.TheVariants as analysed
use Rattle.bound_file.specs.Lines.{Declaration}
use Rattle.raml_promise.specs.Outside.{Sound, store_of}
use Rattle.raml_promise.specs.Steps.{Answer, OfNormal}
use Rattle.raml_promise.specs.Analysis.{OfCourse}
use Rattle.raml_promise.specs.DeclaredBounds.{PrintsVerdicts}
use Rattle.raml_parts.proofs.Stepping.{bounds_go, bounds_refusal}
use Rattle.raml_top.proofs.contract.bound_verdicts.Goals as goal

pub returns-in-Ok-clause-gives : goal.returns-in-Ok-clause-gives
returns-in-Ok-clause-gives g c before earlier =
    let P = program_of c.args.typed.now in
    let Rest : Declaration → Answer → Type 0 = λ declared. OfNormal P (λ N. OfCourse Sound analysed.Program P N c.args.degree rule.Least (PrintsVerdicts Sound P N declared.lines)) in
    bounds_go (store_of (g.S.Store.holds c.args.store.now) before (g.S.Store.faults c.read_bounds.new.store)) c.args.file.now P c.args.degree Rest
    c.in-Ok.declared (c.in-Ok.ensures.ok before) c.verdicts.result c.verdicts.ensures

pub returns-in-Err-clause-gives : goal.returns-in-Err-clause-gives
returns-in-Err-clause-gives g c before earlier =
    let P = program_of c.args.typed.now in
    let Rest : Declaration → Answer → Type 0 = λ declared. OfNormal P (λ N. OfCourse Sound analysed.Program P N c.args.degree rule.Least (PrintsVerdicts Sound P N declared.lines)) in
    bounds_refusal (store_of (g.S.Store.holds c.args.store.now) before (g.S.Store.faults c.read_bounds.new.store)) c.args.file.now P c.args.degree Rest
    c.in-Err.refusal (c.in-Err.ensures.err before earlier)
