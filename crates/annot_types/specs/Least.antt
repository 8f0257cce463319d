-- Tasks that no block solves, and blocks of least weight.
use Rattle.std.specs.Prelude.{◌≤◌, ℕ, ◌*◌, ◌^◌, ◌+◌, List, ◌∷◌, slice_get, Option, Some, None}
use Rattle.base_poly.specs.Plain.{degrees}
use Rattle.base_poly.specs.Indices.{index_list}
use Rattle.index_shift.specs.Potential.{weighed}
use Rattle.normal_spec.specs.Norm.{NormFun}
use Rattle.normal_spec.specs.Context.{types}
use Rattle.cost_free.specs.Task.{Task}
use Rattle.annot_types.specs.Program.{Program, members}
use Rattle.annot_types.specs.Certificate.{annotation, Sig, Hint, Solved, Block, sigs_of}
use Rattle.annot_types.specs.Holds.{budget_of, Holds}

-- the block that solves the task with these signatures and hints
abbrev pub solving : Task → List Sig → List (List Hint) → Block
solving task sigs hints = record { task = task; body = Solved sigs hints }

-- no positive t, signatures and hints hold for the task
abbrev pub Refuted : Program → ℕ → List Block → Task → ℕ → Type 0
Refuted P d earlier task scale =
    (t : ℕ) (sigs : List Sig) (hints : List (List Hint)) → Holds P d earlier scale (solving task sigs hints) t → ⊥

-- the weighted sum of a function's argument annotation: the entry of a tuple weighs ten to its degree
abbrev pub args_weight : Option NormFun → ℕ → Sig → ℕ
args_weight None budget s = 0
args_weight (Some g) budget s = weighed (λ t. 10 ^ degrees t) (index_list (types g.params) budget) (annotation s.args)

-- the sum over the functions of a group
abbrev pub group_weight : Program → ℕ → List ℕ → List Sig → ℕ
group_weight P budget (f ∷ fs) (s ∷ ss) = args_weight (slice_get P.funs f) budget s + group_weight P budget fs ss
group_weight P budget _ _ = 0

abbrev pub weight : Program → ℕ → Block → ℕ
weight P d block = group_weight P (budget_of d block.task.kind) (members P block.task.group) (sigs_of block.body)

-- The block holds with a t, and whatever holds for its task with another t weighs no less, each weight over its t.
pub record Least (P : Program) (d : ℕ) (earlier : List Block) (scale : ℕ) (block : Block) : Type 0 where
  pub t : ℕ
  pub holds : Holds P d earlier scale block t
  pub least : (u : ℕ) (sigs : List Sig) (hints : List (List Hint)) →
      Holds P d earlier scale (solving block.task sigs hints) u →
      u * weight P d block ≤ t * weight P d (solving block.task sigs hints)
