-- The rows of a job, and what it is to solve them.
use Rattle.std.specs.Prelude.{◌≡◌, ℕ, ◌+◌, ◌↔◌, ℤ, pos, ◌-ℤ◌, not, List, map, filter, length, slice_index_or}
use Rattle.std.specs.List.{range_with_len}
use Rattle.std.specs.Ordering.{int_eq}
use Rattle.linear_rows.specs.Terms.{Terms, SparseRow}
use Rattle.linear_rows.specs.Systems.{LinearSystem, Solves}
use Rattle.annot_types.specs.System.{is_kept}
use Rattle.rules_spec.specs.Numbers.{Condition, Carries}
use Rattle.rules_spec.specs.Kinds.{Amount, amounts, Form, forms, unknown, value, AllMeet}
use Rattle.rules_spec.specs.Carried.{WalksCarry}
use Rattle.rules_spec.specs.Tasks.{Job, unknowns, given_conditions}

-- the terms of the first n unknowns that have these coefficients
abbrev pub terms_of : ℕ → (ℕ → ℤ) → Terms
terms_of n f = filter (λ (t : ℕ × ℤ). not (int_eq t.1 (pos 0))) (map (λ u. (u, f u)) (range_with_len 0 n))

-- a condition over n unknowns as a row
abbrev pub row_of : ℕ → Condition Form → SparseRow
row_of n c = record {
  terms = terms_of n (λ u. pos (c.left.terms u) -ℤ pos (c.right.terms u));
  right = pos (c.right.plus + c.left.minus) -ℤ pos (c.left.plus + c.right.minus);
}

-- those that are not left out
abbrev pub rows_of : ℕ → List (Condition Form) → List SparseRow
rows_of n cs = filter is_kept (map (row_of n) cs)

-- the system of a job, with any weights
abbrev pub system_of : Job → List ℤ → LinearSystem
system_of j weights = record { unknowns = unknowns j; rows = rows_of (unknowns j) (given_conditions forms unknown j); weights = weights }

-- the amounts that numbers are, in the order of unknowns
abbrev pub amount : List ℕ → ℕ → Amount
amount x u = record { plus = slice_index_or x u 0; minus = 0 }

-- Numbers over t solve the rows exactly where the signatures and hints that they give meet all conditions, prices and
-- earlier numbers taken t times.
abbrev pub RowsAreConditions : Type 0
RowsAreConditions = (j : Job) (weights : List ℤ) (t : ℕ) (x : List ℕ) → length x ≡ unknowns j →
    Solves (system_of j weights) (map pos x) (pos t) ↔ AllMeet (given_conditions (amounts t) (amount x) j)

abbrev pub FormsCarry : Type 0
FormsCarry = (t : ℕ) (x : List ℕ) → Carries forms (amounts t) (value t x)

-- The walk over sums of unknowns, evaluated, is the walk over amounts.
abbrev pub FormsWalkAsAmounts : Type 0
FormsWalkAsAmounts = (t : ℕ) (x : List ℕ) → WalksCarry forms (amounts t) (value t x)
