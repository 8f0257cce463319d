-- Rows that are made of columns that ascend.
use Rattle.std.proofs.Common.{ℕ, ◌≤◌, [], ◌∷◌, arith}
use Rattle.simplex_rows.specs.Entries.{Entries, EndsBefore}

pub ends_later : (c k : ℕ) (es : Entries) → EndsBefore c es → c ≤ k → EndsBefore k es
ends_later c k [] h l = tt
ends_later c k ((j, x) ∷ es) h l = (omega arith, ends_later c k es h.1 l)
