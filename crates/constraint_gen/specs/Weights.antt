-- Weights of tuples, and positions of targets.
use Rattle.std.specs.Prelude.{◌^◌, ℕ, ℤ, pos, List, [], ◌∷◌, filter, length, slice_index_or}
use Rattle.std.specs.List.{list_any, range_with_len}
use Rattle.raml_syntax.specs.Tree.{Type'}
use Rattle.base_poly.specs.Plain.{Plain, degrees, alike}
use Rattle.base_poly.specs.Indices.{index_list}
use Rattle.cost_free.specs.Target.{targets}
use Rattle.cost_free.specs.declared.task.Task.{Task}
use Rattle.cost_free.specs.Read.{kind_of}
use Rattle.share_normal.specs.Program.{Kept}
use Rattle.annot_types.specs.Program.{members}
use Rattle.annot_types.specs.Holds.{budget_of}
use Rattle.annot_types.specs.System.{sig_weights}
use Rattle.rules_plan.specs.Read.{program_in}

-- ten to the degree
abbrev pub weight_of : List Plain → ℤ
weight_of t = pos (10 ^ degrees t)

-- of the type that stands first, the positions of the target of this number
abbrev pub positions_in : ℕ → ℕ → ℕ → List Type' → List ℕ
positions_in d budget number [] = []
positions_in d budget number (A ∷ As) =
    filter (λ k. list_any (alike (slice_index_or (index_list (A ∷ As) budget) k [])) (slice_index_or (targets A d) number []))
    (range_with_len 0 (length (index_list (A ∷ As) budget)))

-- of the signatures of a task's group
abbrev pub weights_of : Kept → ℕ → Task → List ℤ
weights_of program d task = sig_weights (program_in program) (budget_of d (kind_of task.kind)) (members (program_in program) task.group)
