use Rattle.std.proofs.Common.{refl, ap, ◌∙◌}
use Rattle.base_poly.specs.Plain.{OneEntry}
use Rattle.base_poly.specs.Read.{index_of}
use Rattle.base_poly.proofs.Many.{as_some}
use Rattle.tests_potential.proofs.points.some.Goals as goal

pub returns : goal.returns
returns c = as_some _ c.in_ok-new.field-0 refl ∙ ap (λ i. OneEntry (index_of i)) c.in_ok-new.ensures.ok
