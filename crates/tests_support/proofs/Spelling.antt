-- Systems that are read from text.
use Rattle.std.proofs.Common.{◌∙◌, ℕ, ◌<◌, ℤ, pos, ◌≤ℤ◌, arith, List, [], ◌∷◌, ◌++◌}
use Rattle.raml_num.specs.Sums.{NoneNegative}
use Rattle.linear_rows.specs.Terms.{SparseRow, AddsAt}
use Rattle.linear_rows.specs.Systems.{IsBelow}

pub below_more : (n u : ℕ) (t : ℤ) (old new : SparseRow) → IsBelow n old → u < n → AddsAt u t old.terms new.terms → IsBelow n new
below_more n u t old new b h a = λ v l. a.others v (λ e. omega arith) ∙ b v l

pub natural_more : (xs : List ℤ) (x : ℤ) → NoneNegative xs → pos 0 ≤ℤ x → NoneNegative (xs ++ x ∷ [])
natural_more [] x p h = (h, tt)
natural_more (y ∷ xs) x p h = (p.0, natural_more xs x p.1 h)
