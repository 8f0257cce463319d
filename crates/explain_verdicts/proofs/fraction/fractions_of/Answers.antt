use Rattle.std.proofs.Common.{◌≡◌, sym, ap, subst, ◌∙◌}
use Rattle.std.proofs.lemmas.Result.{IfOk-weaker}
use Rattle.raml_syntax.specs.Types.{types_of}
use Rattle.raml_syntax.specs.Read.{function_of}
use Rattle.base_poly.specs.Read.{context_of}
use Rattle.bound_file.specs.Read.{coefficients_of, line_of}
use Rattle.report_text.specs.Report.{types_in}
use Rattle.explain_verdicts.specs.Fractions.{fractions_of}
use Rattle.explain_verdicts.specs.Written.{AreFractions}
use Rattle.explain_verdicts.proofs.fraction.fractions_of.Goals as goal

pub returns-clause-is : goal.returns-clause-is
returns-clause-is c =
    let types : context_of c.deref-2.result.now ≡ types_of (function_of c.args.fun.now) = ap context_of c.deref-2.ensures.value ∙ c.in_ok-types.ensures ∙ ap types_in c.deref.ensures.value in
    IfOk-weaker c.fractions.result _ _ (λ fractions is. is ∙ (λ i. fractions_of (types i) c.args.degree (coefficients_of (c.deref-3.ensures.value i)))) c.fractions.ensures

pub returns-clause-are : goal.returns-clause-are
returns-clause-are c =
    let As = types_of (function_of c.args.fun.now) in
    let types : context_of c.deref-2.result.now ≡ As = ap context_of c.deref-2.ensures.value ∙ c.in_ok-types.ensures ∙ ap types_in c.deref.ensures.value in
    let have = c.lines_have_fractions.ensures As c.args.degree (line_of c.args.line.now) c.requires.degree c.requires.sound.proper c.requires.placed in
    IfOk-weaker c.fractions.result _ _
    (λ fractions is. subst (AreFractions As) (sym (is ∙ (λ i. fractions_of (types i) c.args.degree (coefficients_of (c.deref-3.ensures.value i))))) have) c.fractions.ensures
