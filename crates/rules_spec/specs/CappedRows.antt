-- Sums of unknowns whose numbers stand at the greatest one of 128 bits where they would leave it, and their rows.
use Rattle.std.specs.Prelude.{◌≡◌, ℕ, ◌+◌, ◌-◌, ◌*◌, ◌^◌, ℤ, pos, negsuc, int_le, Bool, cond, ◌&&◌, Option, None, Some}
use Rattle.std.specs.List.{list_all}
use Rattle.linear_rows.specs.Terms.{SparseRow}
use Rattle.annot_types.specs.System.{is_kept}
use Rattle.rules_spec.specs.Numbers.{Numbers, Condition}
use Rattle.rules_spec.specs.Kinds.{Form, forms}
use Rattle.rules_spec.specs.Capped.{cap}
use Rattle.rules_spec.specs.Carried.{GivenCarry, condition_to}
use Rattle.rules_spec.specs.Solving.{row_of}
use Rattle.rules_spec.specs.Sure.{IsSure}

abbrev pub capped_form : Form → Form
capped_form f = record { terms = λ u. cap (f.terms u); plus = cap f.plus; minus = cap f.minus }

abbrev pub capped_forms : Numbers Form
capped_forms = record {
  none = record { terms = λ u. 0; plus = 0; minus = 0 };
  plus = λ x y. record { terms = λ u. cap (x.terms u + y.terms u); plus = cap (x.plus + y.plus); minus = cap (x.minus + y.minus) };
  times = λ n x. record { terms = λ u. cap (n * x.terms u); plus = cap (n * x.plus); minus = cap (n * x.minus) };
  number = λ n. record { terms = λ u. 0; plus = cap n; minus = 0 };
  less = λ n x. record { terms = x.terms; plus = x.plus; minus = cap (x.minus + n) };
}

abbrev pub capped_condition : Condition Form → Condition Form
capped_condition c = condition_to capped_form c

-- a number of 128 bits with a sign
abbrev pub fits : ℤ → Bool
fits z = int_le (negsuc (2 ^ 127 - 1)) z && int_le z (pos (2 ^ 127 - 1))

abbrev pub row_fits : SparseRow → Bool
row_fits row = list_all (λ (t : ℕ × ℤ). fits t.1) row.terms && fits row.right

-- the row; none where it leaves 128 bits
abbrev pub within : SparseRow → Option SparseRow
within row = cond (row_fits row) (Some row) None

-- a condition by what is added in its row and what is subtracted, both capped
abbrev pub capped_totals : Condition Form → Condition Form
capped_totals c = record {
  path = c.path;
  index = c.index;
  left = record { terms = λ u. cap (c.left.terms u); plus = cap (c.left.plus + c.right.minus); minus = 0 };
  right = record { terms = λ u. cap (c.right.terms u); plus = cap (c.right.plus + c.left.minus); minus = 0 };
}

-- the row of a condition is left out, or leaves, exactly where that of the other does, and is otherwise the same
pub record RowsAgree (n : ℕ) (c e : Condition Form) : Type 0 where
  pub kept : is_kept (row_of n c) ≡ is_kept (row_of n e)
  pub within : within (row_of n c) ≡ within (row_of n e)

-- The walk over capped sums is that over exact ones, capped, and nothing is lost of a row that is sure.
pub record CappedRows : Type 0 where
  pub walks : (give : ℕ → Form) → GivenCarry forms capped_forms capped_form give
  pub agree : (n : ℕ) (c : Condition Form) → IsSure c → RowsAgree n (capped_totals c) c
