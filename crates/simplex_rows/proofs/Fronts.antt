-- The first entries of a row, and those after them.
use Rattle.std.proofs.Common.{ℕ, zero, suc, ◌<◌, ◌≤◌, [], ◌∷◌, length, take, drop, arith}
use Rattle.std.specs.List.{AllWithin, HoldsAt}
use Rattle.simplex_rows.specs.Entries.{Entries, EndsBefore, StartsAt}

pub ends_before : (c n : ℕ) (es : Entries) → AllWithin (λ e. e.0 < c) es 0 n → EndsBefore c (take n es)
ends_before c zero es h = tt
ends_before c (suc n) [] h = tt
ends_before c (suc n) (e ∷ es) h = (h 0 e (omega arith) (omega arith), ends_before c n es (λ i d from lt. h (suc i) d (omega arith) (omega arith)))

pub starts_at : (c n : ℕ) (es : Entries) → (n < length es → HoldsAt (λ e. c ≤ e.0) es n) → StartsAt c (drop n es)
starts_at c zero [] h = tt
starts_at c zero (e ∷ es) h = h (omega arith) e
starts_at c (suc n) [] h = tt
starts_at c (suc n) (e ∷ es) h = starts_at c n es (λ lt d. h (omega arith) d)
