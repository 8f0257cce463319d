-- Declared bounds of append, worked out by hand.
use Rattle.std.specs.Prelude.{◌≡◌, ℕ, ℤ, pos, neg_ℤ, List, [], ◌∷◌, map}
use Rattle.linear_rows.specs.Terms.{Terms, SparseRow}
use Rattle.linear_rows.specs.Systems.{LinearSystem, matrix, right_sides}
use Rattle.linear_rows.specs.Vectors.{dot, mix}
use Rattle.cost_free.specs.declared.task.Meter.TheVariants.{Cells}
use Rattle.cost_free.specs.Task.{With}
use Rattle.annot_types.specs.Example.{program, append, one_left, length_left, no_ticks, cells}
use Rattle.bound_file.specs.Lines.{Line, numerator_at, denominator_at}
use Rattle.bound_contract.specs.System.{declared_system}
use Rattle.bound_contract.specs.Kept.{Keeps}

-- once what the tuple at a position counts
abbrev once : ℕ → Line
once position = record { fun = 0; meter = Cells; bound = record { position = position; numerator = 1; denominator = 1 } ∷ [] }

-- append cells <= 1*<[_], []>
abbrev of_first : Line
of_first = once 2

-- append cells <= 1*<[], [_]>
abbrev of_second : Line
of_second = once 1

-- append cells <= 5/3*<[_], []> + 7
abbrev in_thirds : Line
in_thirds = record {
  fun = 0;
  meter = Cells;
  bound = record { position = 2; numerator = 5; denominator = 3 } ∷ record { position = 0; numerator = 7; denominator = 1 } ∷ [];
}

abbrev number_at : Line → ℕ → ℕ × ℕ
number_at line k = (numerator_at line.bound k, denominator_at line.bound k)

-- over the blocks before, at degree 1 and this scale
abbrev over_cells : ℕ → Line → LinearSystem
over_cells scale line =
    declared_system (program append) 1 (one_left ∷ length_left ∷ no_ticks ∷ []) (record { group = 0; kind = With Cells }) scale line

abbrev plus : ℕ → ℕ × ℤ
plus u = (u, pos 1)

abbrev minus : ℕ → ℕ × ℤ
minus u = (u, neg_ℤ (pos 1))

abbrev row : Terms → ℤ → SparseRow
row terms right = record { terms = terms; right = right }

-- by these rows none lies under the second bound: there is no cell for the call's result
abbrev vector : List ℤ
vector = pos 0 ∷ pos 0 ∷ pos 1 ∷ pos 0 ∷ pos 0 ∷ pos 1 ∷ pos 0 ∷ pos 1 ∷ pos 0 ∷ pos 0 ∷ pos 0 ∷ pos 1 ∷ []

pub record Examples : Type 0 where
  -- the block with a cell for each element of the first list lies under the first bound
  pub kept : Keeps (program append) 1 (one_left ∷ length_left ∷ no_ticks ∷ []) 1 of_first (cells ((2, pos 1) ∷ [])) 1
  pub numbers : map (number_at in_thirds) (0 ∷ 1 ∷ 2 ∷ []) ≡ (7, 1) ∷ (0, 1) ∷ (5, 3) ∷ []
  pub rows : (over_cells 1 of_first).rows
      ≡ row (plus 0 ∷ minus 3 ∷ []) (pos 0)
      ∷ row (plus 1 ∷ minus 4 ∷ []) (pos 0)
      ∷ row (plus 2 ∷ minus 7 ∷ []) (pos 0)
      ∷ row (minus 8 ∷ []) (pos 0)
      ∷ row (minus 8 ∷ []) (pos 0)
      ∷ row (plus 3 ∷ minus 5 ∷ plus 7 ∷ []) (pos 0)
      ∷ row (plus 4 ∷ minus 6 ∷ plus 8 ∷ []) (pos 0)
      ∷ row (minus 3 ∷ minus 4 ∷ plus 5 ∷ []) (pos 1)
      ∷ row (minus 4 ∷ plus 6 ∷ []) (pos 0)
      ∷ row (minus 0 ∷ []) (pos 0)
      ∷ row (minus 1 ∷ []) (pos 0)
      ∷ row (minus 2 ∷ []) (neg_ℤ (pos 1))
      ∷ []
  -- at scale 2 the right sides are twice as great
  pub thirds : map (λ (r : SparseRow). r.right) (over_cells 2 in_thirds).rows
      ≡ pos 0 ∷ pos 0 ∷ pos 0 ∷ pos 0 ∷ pos 0 ∷ pos 0 ∷ pos 0 ∷ pos 2 ∷ pos 0 ∷ neg_ℤ (pos 14) ∷ pos 0 ∷ neg_ℤ (pos 10) ∷ []
  pub refuting : mix 9 vector (matrix (over_cells 1 of_second))
      ≡ pos 0 ∷ pos 0 ∷ pos 0 ∷ pos 0 ∷ neg_ℤ (pos 1) ∷ pos 0 ∷ pos 0 ∷ pos 0 ∷ pos 0 ∷ []
  pub positive : dot vector (right_sides (over_cells 1 of_second)) ≡ pos 1
