use Rattle.std.proofs.Common.{[], ◌∷◌, sym, ◌∙◌, subst}
use Rattle.std.specs.List.{IsDistinct}
use Rattle.base_poly.specs.Plain.{alike}
use Rattle.tests_potential.proofs.SampledTexts.{two_differ}
use Rattle.tests_potential.proofs.texts.with_constant.Goals as goal

pub text_of-requires-clause-distinct : goal.text_of-requires-clause-distinct
text_of-requires-clause-distinct c = subst (IsDistinct alike) (sym (c.in_ok-tuples.ensures.items ∙ (λ n. c.args.tuple ∷ c.in_ok-none.ensures n ∷ []))) (two_differ c.args.tuple c.requires.two)
