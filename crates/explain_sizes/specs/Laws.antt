-- Laws of sizes.
use Rattle.std.specs.Prelude.{◌≡◌, ◌≤◌, ◌<◌, ◌/◌, List}
use Rattle.raml_syntax.specs.Value.{Value}
use Rattle.base_poly.specs.Poly.{Term, den_of, terms_of}
use Rattle.base_poly.specs.declared.tuple.Poly.{Poly}
use Rattle.poly_point.specs.Point.{worth}
use Rattle.explain_sizes.specs.Sizes.{Sizes, HasExactly, AreWithin, HaveExactly, AreAtMost}
use Rattle.explain_sizes.specs.Counts.{worth_at, whole_at}

-- What a polynomial is at sizes is its worth at all values that have exactly these, and so is its whole part.
pub record IsWorthAtExactSizes : Type 0 where
  pub sum : (ts : List Term) (ss : List Sizes) (vs : List Value) → HaveExactly ss vs → worth ts vs ≡ worth_at ts ss
  pub whole : (p : Poly) (ss : List Sizes) (vs : List Value) → HaveExactly ss vs → worth (terms_of p) vs / den_of p ≡ whole_at p ss

-- Its worth at values within the sizes is no more, and so is its whole part.
pub record BoundsWorthWithinSizes : Type 0 where
  pub sum : (ts : List Term) (ss : List Sizes) (vs : List Value) → AreWithin ss vs → worth ts vs ≤ worth_at ts ss
  pub whole : (p : Poly) (ss : List Sizes) (vs : List Value) → 0 < den_of p → AreWithin ss vs →
      worth (terms_of p) vs / den_of p ≤ whole_at p ss

-- Some value has exactly the sizes.
abbrev pub SizesAreMet : Type 0
SizesAreMet = (s : Sizes) → (v : Value) × HasExactly s v

-- A polynomial rises with the sizes, and so does its whole part.
pub record RisesWithSizes : Type 0 where
  pub sum : (ts : List Term) (ss us : List Sizes) → AreAtMost ss us → worth_at ts ss ≤ worth_at ts us
  pub whole : (p : Poly) (ss us : List Sizes) → 0 < den_of p → AreAtMost ss us → whole_at p ss ≤ whole_at p us
