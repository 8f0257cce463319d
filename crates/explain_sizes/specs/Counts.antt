-- What base polynomials and polynomials are at sizes.
use Rattle.std.specs.Prelude.{ℕ, suc, ◌*◌, ◌/◌, List, [], ◌∷◌}
use Rattle.base_poly.specs.Plain.{Plain, Unit', Pair, End, Then, NoEntry, OneEntry, entry_count}
use Rattle.base_poly.specs.Base.{total}
use Rattle.base_poly.specs.Laws.{choose}
use Rattle.base_poly.specs.Poly.{Term, den_of, terms_of}
use Rattle.base_poly.specs.declared.tuple.Poly.{Poly}
use Rattle.explain_sizes.specs.Sizes.{Sizes, Parts, Content, Elements}

abbrev mutual
  -- The unit counts 1, and a pair multiplies its parts. A list index counts the ways to choose as many of the elements
  -- as it has entries, times what each of the entries counts at an element's sizes. An option's entry counts at the
  -- sizes of what the option holds. Sizes that are not of the index's type count as the value of no size does in a base
  -- polynomial.
  pub counts : Plain → Sizes → ℕ
  counts Unit' s = 1
  counts (Pair i j) (Parts s t) = counts i s * counts j t
  counts End s = 1
  counts (Then i r) (Elements n s) = choose n (suc (entry_count r)) * (counts i s * each_counts r s)
  counts NoEntry s = 1
  counts (OneEntry i) (Content s) = counts i s
  counts _ _ = 0

  -- the product of what a list index's entries count at an element's sizes
  pub each_counts : Plain → Sizes → ℕ
  each_counts (Then i r) s = counts i s * each_counts r s
  each_counts _ s = 1

-- the product over the components of a tuple
abbrev pub tuple_counts : List Plain → List Sizes → ℕ
tuple_counts [] ss = 1
tuple_counts (i ∷ is) (s ∷ ss) = counts i s * tuple_counts is ss
tuple_counts (i ∷ is) [] = 0

-- the sum of what the tuples count, each times its coefficient
abbrev pub worth_at : List Term → List Sizes → ℕ
worth_at ts ss = total (λ t. t.1 * tuple_counts t.0 ss) ts

-- the whole part of a polynomial's value at sizes
abbrev pub whole_at : Poly → List Sizes → ℕ
whole_at p ss = worth_at (terms_of p) ss / den_of p
