-- What a polynomial is worth at values.
use Rattle.std.specs.Prelude.{◌≡◌, ◌≤◌, ◌<◌, ℕ, ◌*◌, ◌/◌, ◌^◌, List, All}
use Rattle.raml_syntax.specs.Value.{Value, size}
use Rattle.base_poly.specs.Plain.{degrees}
use Rattle.base_poly.specs.Base.{total, bases}
use Rattle.base_poly.specs.Poly.{Term, den_of, terms_of}
use Rattle.base_poly.specs.declared.tuple.Poly.{Poly}
use Rattle.value_text.specs.declared.word.Word.{Word}
use Rattle.value_text.specs.declared.word.Cell.{Cell}
use Rattle.value_text.specs.Stands.{StandForAll}
use Rattle.poly_point.specs.declared.point.Point.{Point}

-- the sum of the base polynomials, each times its coefficient
abbrev pub worth : List Term → List Value → ℕ
worth ts vs = total (λ t. t.1 * bases t.0 vs) ts

-- The words stand for values of at most 2^20 cells.
pub record AreArguments (cells : List Cell) (args : List Word) : Type 0 where
  pub values : List Value
  pub stand : StandForAll cells args values
  pub small : total size values ≤ 2 ^ 20

-- no tuple has a degree above 4
abbrev pub AreLow : Poly → Type 0
AreLow p = All (λ t. degrees t.0 ≤ 4) p.terms.items

-- The numerator is exact and fits 128 bits, and the floor is the whole part of the quotient.
pub record IsPoint (poly : Poly) (values : List Value) (p : Point) : Type 0 where
  pub numerator : p.numerator ≡ worth (terms_of poly) values
  pub floor : p.floor ≡ worth (terms_of poly) values / den_of poly
  pub fits : worth (terms_of poly) values < 2 ^ 128
