use Rattle.std.proofs.Common.{[], ◌∷◌, sym, ◌∙◌, subst}
use Rattle.std.specs.List.{IsDistinct}
use Rattle.base_poly.specs.Plain.{alike}
use Rattle.tests_potential.proofs.SampledTexts.{three_differ}
use Rattle.tests_potential.proofs.texts.of_three.Goals as goal

pub text_of-requires-clause-distinct : goal.text_of-requires-clause-distinct
text_of-requires-clause-distinct c = subst (IsDistinct alike) (sym (c.in_ok-tuples.ensures.items ∙ (λ n. c.in_ok-two.ensures n ∷ c.in_ok-none.ensures n ∷ c.in_ok-one.ensures n ∷ []))) three_differ
