-- Rows that are added to a system.
use Rattle.std.proofs.Common.{◌≡◌, ℕ, ℤ, List, [], ◌∷◌, ◌++◌}
use Rattle.linear_rows.specs.Terms.{SparseRow}
use Rattle.linear_rows.specs.Systems.{IsSystem, IsBelow, AllBelow}

below-append : (n : ℕ) (rows : List SparseRow) (row : SparseRow) → AllBelow n rows → IsBelow n row → AllBelow n (rows ++ row ∷ [])
below-append n [] row h k = (k, tt)
below-append n (r ∷ rows) row h k = (h.0, below-append n rows row h.1 k)

pub one_more : (n : ℕ) (rows news : List SparseRow) (weights : List ℤ) (row : SparseRow) → IsSystem (record { unknowns = n; rows = rows; weights = weights }) → IsBelow n row → news ≡ rows ++ row ∷ []
    → IsSystem (record { unknowns = n; rows = news; weights = weights })
one_more n rows news weights row s k e = rw e (record { below = below-append n rows row s.below k; one_each = s.one_each; natural = s.natural })
