-- The system of a task with a declared bound: those rows, and one more for each position of the function's arguments.
use Rattle.std.specs.Prelude.{ℕ, ◌+◌, ◌*◌, nat_eq, cond, pos, neg_ℤ, List, [], ◌∷◌, ◌++◌, map, slice_get}
use Rattle.std.specs.List.{range_with_len}
use Rattle.linear_rows.specs.Terms.{SparseRow}
use Rattle.linear_rows.specs.Systems.{LinearSystem}
use Rattle.cost_free.specs.Task.{Task}
use Rattle.annot_types.specs.Program.{Program, members}
use Rattle.rules_spec.specs.Tasks.{Body}
use Rattle.annot_types.specs.Certificate.{Block}
use Rattle.annot_types.specs.Rows.{size}
use Rattle.annot_types.specs.System.{args_of, system}
use Rattle.rules_systems_laws.specs.Arguments.{first_from}
use Rattle.bound_file.specs.Lines.{Coefficient, Line, numerator_at, denominator_at}

-- The unknown, times the denominator, is at most the numerator times the scale.
abbrev pub at_most : ℕ → ℕ → ℕ → ℕ → SparseRow
at_most unknown numerator denominator scale =
    record { terms = (unknown, neg_ℤ (pos denominator)) ∷ []; right = neg_ℤ (pos (numerator * scale)) }

-- of an annotation of so many positions, whose unknowns begin with this one
abbrev pub line_rows : List Coefficient → ℕ → ℕ → ℕ → List SparseRow
line_rows bound first count scale =
    map (λ k. at_most (first + k) (numerator_at bound k) (denominator_at bound k) scale) (range_with_len 0 count)

-- a system with rows behind its own
abbrev pub with_rows : LinearSystem → List SparseRow → LinearSystem
with_rows s rows = record { unknowns = s.unknowns; rows = s.rows ++ rows; weights = s.weights }

module _ (P : Program) (d : ℕ) (earlier : List Block) (task : Task) (scale : ℕ) (line : Line) where
  -- the first unknown of the line's function, and how many positions its arguments have
  abbrev pub first : ℕ
  first = first_from P d 0 (members P task.group) line.fun

  abbrev pub count : ℕ
  count = size (args_of (slice_get P.funs line.fun)) d

  abbrev pub declared_system : LinearSystem
  declared_system = with_rows (system P d earlier task scale) (line_rows line.bound first count scale)

-- the same by how many positions the arguments and the results of these functions have
abbrev pub first_in : List Body → List ℕ → ℕ → ℕ → ℕ
first_in (b ∷ bs) (g ∷ gs) f next = cond (nat_eq f g) next (first_in bs gs f (next + (b.args + b.result)))
first_in _ _ f next = next

-- how many positions the function's arguments have
abbrev pub count_in : List Body → List ℕ → ℕ → ℕ
count_in (b ∷ bs) (g ∷ gs) f = cond (nat_eq f g) b.args (count_in bs gs f)
count_in _ _ f = 0
