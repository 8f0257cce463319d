-- How the coefficients of two polynomials stand to each other.
use Rattle.std.specs.Prelude.{◌≡◌, ◌≤◌, ℕ, ◌*◌, Option, Some, None, cond, List, [], ◌∷◌, codes, unwrap_or}
use Rattle.base_poly.specs.Plain.{Plain, alike}
use Rattle.base_poly.specs.Poly.{Term, den_of, terms_of}
use Rattle.base_poly.specs.declared.tuple.Poly.{Poly}
use Rattle.bound_compare.specs.declared.relation.Relation.{Relation}
use Rattle.bound_compare.specs.declared.relation.Relation.TheVariants.{Equal, Below, Above, Mixed}

-- the terms of a polynomial, over a denominator
pub record Sum : Type 0 where
  pub den : ℕ
  pub terms : List Term

abbrev pub sum_of : Poly → Sum
sum_of p = record { den = den_of p; terms = terms_of p }

-- the number in the tuple's term
abbrev pub term_at : List Plain → List Term → Option ℕ
term_at t [] = None
term_at t (u ∷ us) = cond (alike t u.0) (Some u.1) (term_at t us)

-- the tuple's number, 0 where there is no term
abbrev pub number_at : List Plain → List Term → ℕ
number_at t us = unwrap_or (term_at t us) 0

-- Each coefficient of the first is at most that of the second. A coefficient is a fraction, and n / d is at most m / e where n * e ≤ m * d.
abbrev pub AtMost : Sum → Sum → Type 0
AtMost p q = (t : List Plain) → number_at t p.terms * q.den ≤ number_at t q.terms * p.den

-- each is equal to that of the second
abbrev pub AllEqual : Sum → Sum → Type 0
AllEqual p q = (t : List Plain) → number_at t p.terms * q.den ≡ number_at t q.terms * p.den

-- each is at most that of the second, and not all are equal
abbrev pub IsBelow : Sum → Sum → Type 0
IsBelow p q = AtMost p q × ¬ AllEqual p q

-- The relation in which the first stands to the second: `Above` is `Below` reversed, and `Mixed` is anything else.
abbrev pub Stands : Relation → Sum → Sum → Type 0
Stands Equal p q = AllEqual p q
Stands Below p q = IsBelow p q
Stands Above p q = IsBelow q p
Stands Mixed p q = ¬ AllEqual p q × ¬ IsBelow p q × ¬ IsBelow q p

-- the word of a relation
abbrev pub word_of : Relation → List ℕ
word_of Equal = codes "equal"
word_of Below = codes "below"
word_of Above = codes "above"
word_of Mixed = codes "mixed"
