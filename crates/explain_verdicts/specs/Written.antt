-- What can be told of verdicts.
use Rattle.std.specs.Prelude.{◌≡◌, ◌≤◌, ◌<◌, ◌^◌, ℕ, List, map, slice_get, Some, IfSome}
use Rattle.std.specs.List.{All, IsDistinct}
use Rattle.raml_syntax.specs.Tree.{Type', Function, Prog}
use Rattle.raml_syntax.specs.Types.{types_of}
use Rattle.base_poly.specs.Plain.{degrees, alike}
use Rattle.base_poly.specs.Indices.{AreIndices}
use Rattle.base_poly.specs.Poly.{IsPoly}
use Rattle.base_poly.specs.declared.tuple.Poly.{Poly}
use Rattle.poly_point.specs.Point.{AreLow}
use Rattle.bound_file.specs.Lines.{Line, IsProper}
use Rattle.explain_verdicts.specs.Fractions.{ArePlaced}
use Rattle.explain_verdicts.specs.declared.fraction.Fraction.{Fraction}

-- A fraction whose numbers are positive and below 2^127, at a tuple of these types of a degree of at most 4.
pub record IsFraction (As : List Type') (f : Fraction) : Type 0 where
  pub numerator : 0 < f.numerator
  pub denominator : 0 < f.denominator
  pub above : f.numerator < 2 ^ 127
  pub below : f.denominator < 2 ^ 127
  pub indices : AreIndices f.tuple As
  pub low : degrees f.tuple ≤ 4

-- such fractions, each tuple once
pub record AreFractions (As : List Type') (fs : List Fraction) : Type 0 where
  pub each : All (IsFraction As) fs
  pub distinct : IsDistinct alike (map (λ f. f.tuple) fs)

-- A bound that was found is over tuples of indices of the parameters, of a degree of at most 4.
pub record IsFound (As : List Type') (poly : Poly) : Type 0 where
  pub polynomial : IsPoly poly
  pub indices : All (λ t. AreIndices t.0 As) poly.terms.items
  pub low : AreLow poly

-- The line is of this function, and declares numbers in range at positions of its parameters.
pub record IsOfFunction (P : Prog) (d : ℕ) (line : Line) : Type 0 where
  pub fun : Function
  pub there : slice_get P line.fun ≡ Some fun
  pub placed : ArePlaced (types_of fun) d line.bound
