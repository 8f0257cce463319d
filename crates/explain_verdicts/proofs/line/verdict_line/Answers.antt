use Rattle.std.proofs.Common.{◌≡◌, sym, ap, subst, ◌∙◌, string_bytes}
use Rattle.raml_syntax.specs.Types.{types_of}
use Rattle.raml_syntax.specs.Read.{program_of, function_of}
use Rattle.base_poly.specs.Read.{context_of}
use Rattle.report_text.specs.Names.{meter_text}
use Rattle.report_text.specs.Report.{types_in}
use Rattle.explain_algebra.specs.Algebra.{texts}
use Rattle.explain_bounds.specs.Lines.{names_of}
use Rattle.explain_bounds.specs.Read.{names_in}
use Rattle.explain_verdicts.specs.Read.{found_of}
use Rattle.explain_verdicts.specs.Written.{AreFractions}
use Rattle.explain_verdicts.proofs.Lines.{same_tells, behind_names}
use Rattle.explain_verdicts.proofs.line.verdict_line.Goals as goal

pub push_verdict-requires-clause-fractions : goal.push_verdict-requires-clause-fractions
push_verdict-requires-clause-fractions c =
    let As = types_of (function_of c.args.fun.now) in
    let types : context_of c.deref-3.result.now ≡ As = ap context_of c.deref-3.ensures.value ∙ c.in_ok-types.ensures ∙ ap types_in c.deref.ensures.value in
    subst (λ As. AreFractions As c.deref-5.result.now) (sym types) (subst (AreFractions As) (sym c.deref-5.ensures.value) c.in_ok-fractions.ensures.are)

pub returns : goal.returns
returns c =
    let g = function_of c.args.fun.now in
    let types : context_of c.deref-3.result.now ≡ types_of g = ap context_of c.deref-3.ensures.value ∙ c.in_ok-types.ensures ∙ ap types_in c.deref.ensures.value in
    let names : texts c.deref-4.result.now ≡ names_of g = ap texts c.deref-4.ensures.value ∙ c.in_ok-names.ensures ∙ ap names_in c.deref-2.ensures.value in
    let told = c.in_ok-push_verdict.ensures in
    record {
      behind = told.0;
      tells = same_tells (program_of c.args.program.now) _ (types_of g) _ (names_of g) c.args.degree _ _ c.args.judged.now.verdict (found_of c.args.judged.now) told.0
          types names (c.deref-5.ensures.value ∙ c.in_ok-fractions.ensures.is) told.1;
      is = behind_names g.name (meter_text c.args.line.now.meter) (string_bytes c.in_ok-text.text) (string_bytes c.push_verdict.new.text) told.0 c.in_ok-text.ensures told.2;
    }
