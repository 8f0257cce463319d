use Rattle.std.proofs.Common.{ap, subst, ◌∙◌}
use Rattle.raml_syntax.specs.Tree.{Prog}
use Rattle.raml_syntax.specs.Read.{program_of}
use Rattle.price_file.specs.Read.{prices_of}
use Rattle.annot_types.specs.Program.{Program}
use Rattle.raml_words.specs.declared.request.Rule.TheVariants as rule
use Rattle.refusal_text.specs.declared.task.Analysed.TheVariants as analysed
use Rattle.raml_promise.specs.Outside.{Sound}
use Rattle.raml_promise.specs.Steps.{Answer, OfNormal, Prints}
use Rattle.raml_promise.specs.Analysis.{OfCourse}
use Rattle.raml_promise.specs.Prices.{ArePricedLines}
use Rattle.raml_parts.specs.Parts.{Gives}
use Rattle.raml_parts.proofs.Proved.{kept_gives}
use Rattle.raml_top.proofs.prices.lines_under.Goals as goal

pub normal_form-requires : goal.normal_form-requires
normal_form-requires c = (c.in_ok-applied.ensures.limits c.requires.ready.limits).functions

pub returns-in-Ok : goal.returns-in-Ok
returns-in-Ok c =
    let P = program_of c.args.typed.now in
    let prices = prices_of c.args.prices.now in
    let Rest : Prog → Program → Answer → Type 0 = λ Q N. OfCourse Sound analysed.Program Q N c.args.degree rule.Least (λ cert. Prints Sound (ArePricedLines prices P N cert)) in
    let same = ap program_of c.in-Ok.ensures.source ∙ c.in_ok-applied.ensures.applied in
    subst (λ Q. Gives (OfNormal Q (Rest Q)) c.course_under.result) c.in_ok-applied.ensures.applied
    (kept_gives c.in_ok-applied.applied c.in-Ok.program c.in-Ok.ensures.source c.in-Ok.ensures.groups c.in-Ok.ensures.normal Rest c.course_under.result (c.course_under.ensures prices P same))
