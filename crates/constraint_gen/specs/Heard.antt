-- The rows of the conditions that are heard.
use Rattle.std.specs.Prelude.{◌≡◌, ◌≢◌, ℕ, ℤ, pos, ◌-ℤ◌, ◌+◌, nat_lt, true, false, cond, ◌&&◌, List, [], ◌∷◌, ◌++◌, length, Option}
use Rattle.linear_rows.specs.Terms.{Terms, SparseRow, coefficient}
use Rattle.annot_types.specs.System.{is_kept}
use Rattle.rules_spec.specs.Numbers.{Condition}
use Rattle.rules_spec.specs.Kinds.{Form}
use Rattle.rules_spec.specs.Solving.{row_of}
use Rattle.rules_spec.specs.Capped.{cap}
use Rattle.rules_spec.specs.CappedRows.{fits, within}
use Rattle.constraint_gen.specs.Sums as s
use Rattle.constraint_gen.specs.Sums.{Sum, total_of}

-- The rows over n unknowns that are kept, the first 2001 of them; none stands for a row that leaves 128 bits.
pub record Heard : Type 0 where
  pub unknowns : ℕ
  pub rows : List (Option SparseRow)

abbrev pub kept : Heard → SparseRow → Heard
kept h row = cond (nat_lt (length h.rows) 2001 && is_kept row) (record { unknowns = h.unknowns; rows = h.rows ++ within row ∷ [] }) h

-- the condition of two sums, by what is added in its row and what is subtracted
abbrev pub pair : Sum → Sum → Condition Form
pair left right = record {
  path = [];
  index = 0;
  left = record { terms = λ u. cap (total_of u left.terms); plus = cap (left.plus + right.minus); minus = 0 };
  right = record { terms = λ u. cap (total_of u right.terms); plus = cap (right.plus + left.minus); minus = 0 };
}

-- one condition more
abbrev pub hear : Heard → Condition Sum → Heard
hear h c = kept h (row_of h.unknowns (pair c.left c.right))

abbrev pub hear_all : Heard → List (Condition Sum) → Heard
hear_all h [] = h
hear_all h (c ∷ cs) = hear_all (hear h c) cs

-- the coefficient of an unknown in a row over n unknowns, where the sides take it so often
abbrev pub surplus : ℕ → ℕ → ℕ → ℕ → ℤ
surplus n u a b = cond (nat_lt u n) (pos a -ℤ pos b) (pos 0)

-- that in the row of two sums with these terms
abbrev pub owed : ℕ → s.Terms → s.Terms → ℕ → ℤ
owed n left right u = surplus n u (cap (total_of u left)) (cap (total_of u right))

-- the same of the sums themselves
abbrev pub wanted : ℕ → Sum → Sum → ℕ → ℤ
wanted n left right u = owed n left.terms right.terms u

-- a row has the coefficient that it is to have, and this fits
abbrev pub IsDone : (ℕ → ℤ) → Terms → ℕ → Type 0
IsDone g ts u = (coefficient u ts ≡ g u) × (fits (g u) ≡ true)

-- the unknown has the coefficient z, which fits, and each other one that which it had
pub record Settles (u : ℕ) (z : ℤ) (old new : Terms) : Type 0 where
  pub there : coefficient u new ≡ z
  pub fit : fits z ≡ true
  pub others : (v : ℕ) → v ≢ u → coefficient v new ≡ coefficient v old

-- one of the coefficients does not fit
abbrev pub Leaves : (ℕ → ℤ) → Type 0
Leaves g = (u : ℕ) × (fits (g u) ≡ false)
