-- The tuples of bounds.
use Rattle.std.specs.Prelude.{◌≡◌, ◌≤◌, ℕ, List, slice_get, Some}
use Rattle.std.specs.List.{All}
use Rattle.base_poly.specs.Indices.{AreIndices}
use Rattle.base_poly.specs.Plain.{degrees}
use Rattle.base_poly.specs.Poly.{Term}
use Rattle.normal_spec.specs.Context.{types}
use Rattle.normal_spec.specs.Norm.{NormFun}
use Rattle.cost_free.specs.declared.task.Meter.{Meter}
use Rattle.annot_types.specs.Program.{Program}
use Rattle.annot_types.specs.Certificate.{Certificate}
use Rattle.annot_types.specs.Held.{Bound, Held}
use Rattle.analysis_report.specs.Lines.{Claims}

-- They are tuples of the parameters of the function at this place, of at most this degree.
pub record AreOfParameters (N : Program) (degree f : ℕ) (terms : List Term) : Type 0 where
  pub fun : NormFun
  pub there : slice_get N.funs f ≡ Some fun
  pub each : All (λ t. AreIndices t.0 (types fun.params) × (degrees t.0 ≤ degree)) terms

-- The bounds that a held certificate claims are over such tuples, of at most its degree.
abbrev pub BoundsAreOfParameters : Type 0
BoundsAreOfParameters =
    (N : Program) (c : Certificate) → Held N c →
    (f : ℕ) (meter : Meter) (den : ℕ) (terms : List Term) → Claims N c f meter (Bound den terms) →
    AreOfParameters N c.degree f terms
