-- How many positions a function has.
use Rattle.std.specs.Prelude.{ℕ, List, [], ◌∷◌, Option, None, Some}
use Rattle.normal_spec.specs.Norm.{NormFun}
use Rattle.normal_spec.specs.Context.{types}
use Rattle.annot_types.specs.Program.{Program, members}
use Rattle.annot_types.specs.Certificate.{Block}
use Rattle.annot_types.specs.Held.{IfSolved}
use Rattle.annot_types.specs.Holds.{budget_of}
use Rattle.annot_types.specs.Rows.{size as size_of}
use Rattle.rules_walk.specs.Sizes.{AreSizes}

-- its arguments and its result, at a budget; none where there is no such function
abbrev pub sizes_in : ℕ → Option NormFun → ℕ × ℕ
sizes_in budget None = (0, 0)
sizes_in budget (Some g) = (size_of (types g.params) budget, size_of (g.result ∷ []) budget)

-- those of the functions of a block's group, where it is solved
abbrev pub HasSizes : Program → ℕ → Block → List (ℕ × ℕ) → Type 0
HasSizes P degree block sizes = IfSolved block.body (AreSizes P (budget_of degree block.task.kind) (members P block.task.group) sizes)
