-- What a line declares, at tuples of a function's parameters.
use Rattle.std.specs.Prelude.{◌≡◌, ◌≤◌, ◌<◌, ◌⊎◌, ℕ, ◌*◌, ◌/◌, ◌^◌, List, [], ◌∷◌, length, map, slice_index_or}
use Rattle.std.specs.List.{All}
use Prim.Native.Nat.{◌∣◌}
use Rattle.raml_syntax.specs.Tree.{Type'}
use Rattle.base_poly.specs.Plain.{Plain}
use Rattle.base_poly.specs.Indices.{index_list}
use Rattle.base_poly.specs.Poly.{Term}
use Rattle.bound_file.specs.Lines.{Coefficient, AreBelow}
use Rattle.explain_verdicts.specs.declared.fraction.Fraction.{Fraction}

-- the coefficient with the tuple at its position
abbrev pub fraction_at : List (List Plain) → Coefficient → Fraction
fraction_at tuples c =
    record { tuple = slice_index_or tuples c.position []; numerator = c.numerator; denominator = c.denominator }

-- what is declared of parameters of these types, at a degree
abbrev pub fractions_of : List Type' → ℕ → List Coefficient → List Fraction
fractions_of As d cs = map (fraction_at (index_list As d)) cs

-- Nothing is declared, or there are at most 2000 tuples, and the positions are theirs.
abbrev pub ArePlaced : List Type' → ℕ → List Coefficient → Type 0
ArePlaced As d cs = (cs ≡ []) ⊎ ((length (index_list As d) ≤ 2000) × AreBelow (length (index_list As d)) cs)

-- the denominators divide the number
abbrev pub IsCommon : List Fraction → ℕ → Type 0
IsCommon [] n = Unit {0}
IsCommon (f ∷ fs) n = (f.denominator ∣ n) × IsCommon fs n

-- the fraction over another denominator, which its own divides
abbrev pub term_over : ℕ → Fraction → Term
term_over den f = (f.tuple, f.numerator * (den / f.denominator))

abbrev pub terms_over : ℕ → List Fraction → List Term
terms_over den fs = map (term_over den) fs

-- the numbers are those of a polynomial: the denominator is positive, and all are below 2^127
pub record Fit (den : ℕ) (ts : List Term) : Type 0 where
  pub positive : 0 < den
  pub below : den < 2 ^ 127
  pub numbers : All (λ t. t.1 < 2 ^ 127) ts

-- over no common denominator they are
abbrev pub NoneFit : List Fraction → Type 0
NoneFit fs = (den : ℕ) → IsCommon fs den → Fit den (terms_over den fs) → ⊥
