-- Laws of comparisons and of powers.
use Rattle.std.specs.Prelude.{◌≡◌, ◌≤◌, ℕ, ◌*◌, ◌/◌, pos, true, List, map, length, replicate, All}
use Rattle.raml_syntax.specs.Tree.{Type'}
use Rattle.raml_syntax.specs.Value.{Value}
use Rattle.base_poly.specs.Indices.{AreIndices, tuple_order}
use Rattle.base_poly.specs.Plain.{Plain, Unit', many, degrees}
use Rattle.base_poly.specs.Poly.{Term, den_of, terms_of, IsPoly}
use Rattle.base_poly.specs.declared.tuple.Poly.{Poly}
use Rattle.poly_point.specs.Point.{worth}
use Rattle.bound_compare.specs.Powers.{Powers, are_flat, counts, factorials, exponent_order, powers_of, ArePowers, Fits, Leaves}
use Rattle.bound_compare.specs.Powers.{powers_worth, element_counts}
use Rattle.bound_compare.specs.Compare.{Sum, sum_of, Stands}
use Rattle.bound_compare.specs.Tests.{relation_between}
use Rattle.bound_compare.specs.declared.relation.Relation.{Relation}
use Rattle.bound_compare.specs.declared.relation.Relation.TheVariants.{Equal, Below}

-- Two polynomials stand in one relation.
abbrev pub RelationsAreOne : Type 0
RelationsAreOne = (p q : Sum) (r s : Relation) → Stands r p q → Stands s p q → r ≡ s

-- It is found by looking at the terms of both.
abbrev pub RelationIsFound : Type 0
RelationIsFound = (p q : Poly) → IsPoly p → IsPoly q → Stands (relation_between (sum_of p) (sum_of q)) (sum_of p) (sum_of q)

-- the first is worth no more than the second at these arguments
abbrev pub WorthAtMost : Poly → Poly → List Value → Type 0
WorthAtMost p q values = worth (terms_of p) values * den_of q ≤ worth (terms_of q) values * den_of p

-- What relations promise of the values at all arguments.
pub record RelationsPromise : Type 0 where
  pub equal : (p q : Poly) → IsPoly p → IsPoly q → Stands Equal (sum_of p) (sum_of q) →
      (values : List Value) → WorthAtMost p q values × WorthAtMost q p values
  pub below : (p q : Poly) → IsPoly p → IsPoly q → Stands Below (sum_of p) (sum_of q) → (values : List Value) → WorthAtMost p q values

-- 24 is divided without a rest by the factorials of a tuple's numbers of entries.
abbrev pub DivisionIsExact : Type 0
DivisionIsExact = (t : List Plain) → degrees t ≤ 4 → factorials (counts t) * (24 / factorials (counts t)) ≡ 24

-- The powers of a flat function's polynomial of degree at most 4 are worth, at the element counts of any arguments, 24
-- times what its terms are.
abbrev pub PowersKeepWorth : Type 0
PowersKeepWorth =
    (As : List Type') (ts : List Term) (ps : Powers) → are_flat As ≡ true → All
    (λ t. AreIndices t.0 As) ts → All (λ t. degrees t.0 ≤ 4) ts → ArePowers ts ps →
    (values : List Value) → length values ≡ length As → powers_worth (element_counts values) ps ≡ pos (24 * worth ts values)

-- the index that picks so many elements of a list of integers
abbrev pub picks : ℕ → Plain
picks n = many (replicate n Unit')

-- What fits does not leave.
abbrev pub FitsOrLeaves : Type 0
FitsOrLeaves = (den : ℕ) (ts : List Term) → Fits den ts → ¬ Leaves den ts

-- Exponents are ordered as the tuples that pick so many elements of lists.
abbrev pub ExponentsAreOrdered : Type 0
ExponentsAreOrdered = (es fs : List ℕ) → exponent_order es fs ≡ tuple_order (map picks es) (map picks fs)

-- A sum of terms has its powers once.
abbrev pub PowersAreOne : Type 0
PowersAreOne = (ts : List Term) (ps qs : Powers) → ArePowers ts ps → ArePowers ts qs → ps ≡ qs

-- They are found by going through the exponents of the parameters.
abbrev pub PowersAreThese : Type 0
PowersAreThese =
    (As : List Type') (ts : List Term) → All (λ t. AreIndices t.0 As) ts → All
    (λ t. degrees t.0 ≤ 4) ts → ArePowers ts (powers_of (length As) ts)
