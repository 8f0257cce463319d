-- Findings that can be told.
use Rattle.std.specs.Prelude.{◌≡◌, ◌≤◌, ◌^◌, ℕ, List, All, slice_get, Some}
use Rattle.raml_syntax.specs.Tree.{Type', Function, Prog}
use Rattle.raml_syntax.specs.Types.{types_of}
use Rattle.base_poly.specs.Indices.{AreIndices}
use Rattle.base_poly.specs.Poly.{IsPoly}
use Rattle.poly_point.specs.Point.{AreLow}
use Rattle.cost_free.specs.declared.task.Meter.{Meter}
use Rattle.annot_types.specs.Program.{Program}
use Rattle.explain_degrees.specs.Degrees.{finding_of, AreFindings}
use Rattle.explain_degrees.specs.declared.finding.Finding.{Finding}
use Rattle.explain_degrees.specs.declared.finding.Finding.TheVariants as finding
use Rattle.explain_degrees.specs.declared.finding.Findings.{Findings}
use Rattle.explain_bounds.specs.declared.asked.Asked.{Asked}
use Rattle.explain_bounds.specs.declared.asked.Asked.TheVariants as asked

-- A bound is over tuples of indices of the parameters, of a degree of at most 4.
abbrev pub CanBeTold : List Type' → Finding → Type 0
CanBeTold As (finding.Bound d poly) = IsPoly poly × All (λ t. AreIndices t.0 As) poly.terms.items × AreLow poly
CanBeTold As _ = Unit {0}

abbrev pub AllCanBeTold : List Type' → Findings → Type 0
AllCanBeTold As findings = (meter : Meter) → CanBeTold As (finding_of findings meter)

-- The number that a bound is to keep is at most 2^127.
abbrev pub CanBeAsked : Asked → Type 0
CanBeAsked (asked.Within meter most gs) = most ≤ 2 ^ 127
CanBeAsked _ = Unit {0}

-- What analyses find of a function can be told.
abbrev pub FindingsCanBeTold : Type 0
FindingsCanBeTold = (P : Prog) (N : Program) (most : ℕ) (all : List Findings) (f : ℕ) (g : Function) (findings : Findings) →
    AreFindings P N most all → slice_get P f ≡ Some g → slice_get all f ≡ Some findings → AllCanBeTold (types_of g) findings
