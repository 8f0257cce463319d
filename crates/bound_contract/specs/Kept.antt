-- When a declared bound is kept.
use Rattle.std.specs.Prelude.{◌≡◌, ◌*◌, ℕ, true, List}
use Rattle.linear_rows.specs.Systems.{LinearSystem}
use Rattle.cost_free.specs.Task as k
use Rattle.cost_free.specs.Task.{Task}
use Rattle.cost_free.specs.Blocked.{is_among}
use Rattle.annot_types.specs.Program.{Program, members}
use Rattle.annot_types.specs.Certificate as c
use Rattle.annot_types.specs.Certificate.{Sig, Block, Certificate}
use Rattle.annot_types.specs.Holds.{Holds}
use Rattle.annot_types.specs.Held.{before, scale_for}
use Rattle.annot_types.specs.Least.{solving}
use Rattle.bound_file.specs.Lines.{Line}
use Rattle.bound_contract.specs.Under.{IsUnder}
use Rattle.bound_contract.specs.System.{declared_system}

-- The task is that of the line's meter for a group that has the line's function.
pub record IsTaskOf (P : Program) (line : Line) (task : Task) : Type 0 where
  pub kind : task.kind ≡ k.With line.meter
  pub has : is_among line.fun (members P task.group) ≡ true

-- Over these blocks and this scale the block holds with t, and its annotation lies under the line at the scale at which it stands.
pub record Keeps (P : Program) (d : ℕ) (earlier : List Block) (scale : ℕ) (line : Line) (block : Block) (t : ℕ) : Type 0 where
  pub holds : Holds P d earlier scale block t
  pub under : IsUnder P d line (scale * t) block

-- No positive t, signatures and hints hold for the task with the function's annotation under the line.
abbrev pub NoneKeeps : Program → ℕ → List Block → Task → ℕ → Line → Type 0
NoneKeeps P d earlier task scale line =
    (t : ℕ) (sigs : List Sig) (hints : List (List c.Hint)) → Keeps P d earlier scale line (solving task sigs hints) t → ⊥

-- At a place of a certificate, over the blocks before it and at the certificate's scale.
module _ (P : Program) (c : Certificate) (place : ℕ) (task : Task) (line : Line) where
  abbrev pub system_there : LinearSystem
  system_there = declared_system P c.degree (before c place) task (scale_for c task.kind) line

  abbrev pub KeepsThere : Block → ℕ → Type 0
  KeepsThere block t = Keeps P c.degree (before c place) (scale_for c task.kind) line block t

  abbrev pub NoneKeepsThere : Type 0
  NoneKeepsThere = NoneKeeps P c.degree (before c place) task (scale_for c task.kind) line
