-- What each pivot keeps.
use Rattle.std.proofs.Common.{◌≡◌, ℕ, ◌<◌, ℤ, pos, ◌+ℤ◌, ◌*ℤ◌, ◌<ℤ◌, ◌⊎◌, List, [], ◌∷◌, length, ◌≢◌, get_or}
use Rattle.linear_rows.specs.Vectors.{dot, mix, AllWide}
use Rattle.simplex_spec.specs.Places.{at, row_at, at_each, column}
use Rattle.simplex_spec.specs.Tableaux.{Tableau}

-- each row is the combination of the opening rows that its numbers at the slacks tell
pub record Made (opened : List (List ℤ)) (slacks : List ℕ) (row : List ℤ) : Type 0 where
  pub made : (c : ℕ) → at row c ≡ dot (at_each row slacks) (column c opened)

-- width n; the opening rows and gains
pub record Sound (n : ℕ) (opened : List (List ℤ)) (values : List ℤ) (slacks : List ℕ) (t : Tableau) : Type 0 where
  pub wide : AllWide n t.rows
  pub gains_wide : length t.gains ≡ n
  pub one_each : length t.rows ≡ length t.basis
  pub positive : pos 0 <ℤ t.over
  pub made : (i : ℕ) → i < length t.rows → Made opened slacks (row_at t.rows i)
  -- the gains are the opening ones and the combination that their numbers at the slacks tell
  pub gained : (c : ℕ) → at t.gains c ≡ t.over *ℤ at values c +ℤ dot (at_each t.gains slacks) (column c opened)
  -- a combination of the opening rows is told by its numbers at the basis
  pub spans : (k : List ℤ) (c : ℕ) → length k ≡ length opened → t.over *ℤ at (mix n k opened) c ≡ dot (at_each (mix n k opened) t.basis) (column c t.rows)
  -- and so are the opening gains, but for the gains
  pub valued : (c : ℕ) → t.over *ℤ at values c ≡ at t.gains c +ℤ dot (at_each values t.basis) (column c t.rows)

abbrev pub basis_at : List ℕ → ℕ → ℕ
basis_at bs i = get_or bs i 0

-- a row's basis column has the tableau's number in that row, and 0 in the others and in the gains
pub record Based (t : Tableau) : Type 0 where
  pub own : (i : ℕ) → i < length t.rows → at (row_at t.rows i) (basis_at t.basis i) ≡ t.over
  pub other : (i m : ℕ) → i < length t.rows → m < length t.rows → i ≢ m → at (row_at t.rows i) (basis_at t.basis m) ≡ pos 0
  pub still : (m : ℕ) → m < length t.rows → at t.gains (basis_at t.basis m) ≡ pos 0

-- the first number that is not 0 is positive
abbrev pub LexPositive : List ℤ → Type 0
LexPositive [] = ⊥
LexPositive (x ∷ xs) = (pos 0 <ℤ x) ⊎ ((x ≡ pos 0) × LexPositive xs)

-- so it is in each row, in the columns cs
pub record RowsPositive (cs : List ℕ) (t : Tableau) : Type 0 where
  pub each : (i : ℕ) → i < length t.rows → LexPositive (at_each (row_at t.rows i) cs)

abbrev pub AllBelow : ℕ → List ℕ → Type 0
AllBelow n [] = Unit {0}
AllBelow n (b ∷ bs) = (b < n) × AllBelow n bs
