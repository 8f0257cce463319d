-- Two rows, walked together.
use Rattle.std.specs.Prelude.{◌≡◌, ℕ, min, [], ◌∷◌, pos, Bool, true, false, Option, Some, None, if◌then◌else◌, ◌==◌}
use Rattle.std.specs.Ordering.{int_eq}
use Rattle.frac128.specs.declared.Frac.{Frac}
use Rattle.frac128.specs.Values.{numerator}
use Rattle.simplex_rows.specs.Entries.{Entries, IsNought, IsLess, LessLeaves}

-- the least of the first columns
abbrev pub least_column : Entries → Entries → Option ℕ
least_column [] [] = None
least_column (x ∷ xs) [] = Some x.0
least_column [] (q ∷ qs) = Some q.0
least_column (x ∷ xs) (q ∷ qs) = Some (min x.0 q.0)

abbrev pub TakesIf : Bool → ℕ × Frac → Entries → Frac → Entries → Type 0
TakesIf true e es x rest = (x ≡ e.1) × (rest ≡ es)
TakesIf false e es x rest = IsNought x × (rest ≡ e ∷ es)

-- x is the first fraction where that is in the column, or 0, and the rest is what comes after it
abbrev pub Takes : ℕ → Entries → Frac → Entries → Type 0
Takes c [] x rest = IsNought x × (rest ≡ [])
Takes c (e ∷ es) x rest = TakesIf (e.0 == c) e es x rest

-- a fraction and those after it, without it where it is 0
abbrev pub put : ℕ → Frac → Entries → Entries
put c x es = if int_eq (numerator x) (pos 0) then es else (c, x) ∷ es

-- the first step of a walk: c is the least column, x and q stand there, and xs' and qs' come after it
pub record Steps (xs qs : Entries) (c : ℕ) (x q : Frac) (xs' qs' : Entries) : Type 0 where
  pub least : least_column xs qs ≡ Some c
  pub first : Takes c xs x xs'
  pub second : Takes c qs q qs'

-- column by column, rs is xs less f times qs
pub data Merges (f : Frac) : Entries → Entries → Entries → Type 0 where
  End : {xs qs rs : Entries} → least_column xs qs ≡ None → rs ≡ [] → Merges f xs qs rs
  Step : {xs qs xs' qs' rs : Entries} {c : ℕ} {x q r : Frac} → Steps xs qs c x q xs' qs' →
      IsLess x f q r → Merges f xs' qs' rs → Merges f xs qs (put c r rs)

-- at column c it leaves the range
pub data MergeLeaves (f : Frac) : Entries → Entries → ℕ → Type 0 where
  Here : {xs qs xs' qs' : Entries} {c : ℕ} {x q : Frac} → Steps xs qs c x q xs' qs' → LessLeaves x f q → MergeLeaves f xs qs c
  There : {xs qs xs' qs' : Entries} {c k : ℕ} {x q : Frac} → Steps xs qs c x q xs' qs' → MergeLeaves f xs' qs' k → MergeLeaves f xs qs k
