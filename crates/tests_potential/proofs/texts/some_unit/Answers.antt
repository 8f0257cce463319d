use Rattle.std.proofs.Common.{◌+◌, refl, ap, ◌∙◌}
use Rattle.base_poly.specs.Plain.{deg}
use Rattle.base_poly.specs.Read.{index_of}
use Rattle.base_poly.proofs.Many.{as_unit, as_some}
use Rattle.tests_potential.proofs.texts.some_unit.Goals as goal

pub returns : goal.returns
returns c = ap deg (as_some _ c.in_ok-new.field-0 refl) ∙ ap (λ i. 1 + deg (index_of i)) c.in_ok-new.ensures.ok ∙ ap (λ p. 1 + deg p) (as_unit _ refl)
