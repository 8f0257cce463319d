-- Numbers kept by index.
use Rattle.std.specs.Prelude.{ℕ, ◌+◌, ◌*◌, ◌<◌, ◌≤◌, cond, List, [], ◌∷◌, map, fold}
use Rattle.raml_syntax.specs.Tree.{Type'}
use Rattle.raml_syntax.specs.Value.{Value}
use Rattle.base_poly.specs.Plain.{Plain, deg, same}
use Rattle.base_poly.specs.Indices.{IsIndex}
use Rattle.base_poly.specs.Base.{total, base}
use Rattle.base_poly.specs.Read.{index_of}
use Rattle.base_poly.specs.declared.index.Index.{Index}

-- a map's entries
abbrev pub counts_of : List (Index × ℕ) → List (Plain × ℕ)
counts_of es = map (λ e. (index_of e.0, e.1)) es

-- the number of the index, 0 where it has none
abbrev pub count_at : Plain → List (Plain × ℕ) → ℕ
count_at p [] = 0
count_at p (e ∷ es) = cond (same p e.0) e.1 (count_at p es)

abbrev pub count_one : List (Plain × ℕ) → Plain → List (Plain × ℕ)
count_one [] p = (p, 1) ∷ []
count_one (e ∷ es) p = cond (same p e.0) ((e.0, e.1 + 1) ∷ es) (e ∷ count_one es p)

-- how often each index stands in the list
abbrev pub tallied : List Plain → List (Plain × ℕ)
tallied ps = fold count_one [] ps

-- the sum of the base polynomials, each times its number
abbrev pub counted_worth : Value → List (Plain × ℕ) → ℕ
counted_worth v es = total (λ e. e.1 * base e.0 v) es

-- it counts, and it is an index of each type that both have, of no higher degree than theirs together
pub record IsTerm (i j : Plain) (e : Plain × ℕ) : Type 0 where
  pub counts : 0 < e.1
  pub index : (A : Type') → IsIndex i A → IsIndex j A → IsIndex e.0 A
  pub degree : deg e.0 ≤ deg i + deg j
