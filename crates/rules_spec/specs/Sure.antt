-- What is subtracted in the rows of a task stays below 2^127, unless nothing is added there.
use Rattle.std.specs.Prelude.{◌≡◌, ◌<◌, ℕ, ◌+◌, ◌^◌, ◌⊎◌, List, [], ◌∷◌}
use Rattle.cost_free.specs.Task.{Task}
use Rattle.annot_types.specs.Program.{Program}
use Rattle.annot_types.specs.Certificate.{Block}
use Rattle.rules_spec.specs.Numbers.{Condition}
use Rattle.rules_spec.specs.Kinds.{Form, forms, unknown}
use Rattle.rules_spec.specs.Tasks.{Job, given_conditions}
use Rattle.rules_spec.specs.Told.{bodies_of}

-- Of each coefficient of the row, and of its right side, what is subtracted is below 2^127, or nothing is added.
pub record IsSure (c : Condition Form) : Type 0 where
  pub terms : (u : ℕ) → (c.right.terms u < 2 ^ 127) ⊎ (c.left.terms u ≡ 0)
  pub right : (c.left.plus + c.right.minus < 2 ^ 127) ⊎ (c.right.plus + c.left.minus ≡ 0)

abbrev pub AreSure : List (Condition Form) → Type 0
AreSure [] = Unit {0}
AreSure (c ∷ cs) = IsSure c × AreSure cs

-- Each row of a task's bodies is sure, whatever the numbers of earlier blocks are.
abbrev pub TasksAreSure : Type 0
TasksAreSure = (P : Program) (d : ℕ) (earlier : List Block) (task : Task) (j : Job) →
    j.bodies ≡ bodies_of P d earlier task → j.scale < 2 ^ 127 → AreSure (given_conditions forms unknown j)
