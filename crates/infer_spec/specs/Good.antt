-- What is true of the blocks of a run, each over the blocks before it.
use Rattle.std.specs.Prelude.{◌≡◌, ℕ, List, take, slice_get, Some}
use Rattle.cost_free.specs.declared.task.Meter.{Meter}
use Rattle.cost_free.specs.Task.{Task}
use Rattle.annot_types.specs.Program.{Program}
use Rattle.annot_types.specs.Certificate as c
use Rattle.annot_types.specs.Certificate.{Entries, Body, Solved, Calls, IsSolved, Block, Certificate}
use Rattle.annot_types.specs.Holds.{Holds}
use Rattle.annot_types.specs.Held.{before, scale_for, IsOne, IfSolved}
use Rattle.annot_types.specs.Least.{solving, Refuted, Least}
use Rattle.infer_spec.specs.States.{State, scale_at}

-- of each block, over those before it
abbrev pub AllAt : (List Block → Block → Type 0) → List Block → Type 0
AllAt Q bs = (place : ℕ) (block : Block) → slice_get bs place ≡ Some block → Q (take place bs) block

-- A block holds at these scales, with 1 where it has cost.
pub record HoldsAt (P : Program) (d : ℕ) (scales : Meter → ℕ) (earlier : List Block) (block : Block) : Type 0 where
  pub t : ℕ
  pub one : IsOne block.task.kind t
  pub holds : Holds P d earlier (scale_at scales block.task.kind) block t

-- each solved block does
abbrev pub AllHold : Program → ℕ → State → Type 0
AllHold P d st = AllAt (λ earlier block. IfSolved block.body (HoldsAt P d st.scales earlier block)) st.blocks

-- It is least, with 1 where it has cost.
pub record LeastAt (P : Program) (d : ℕ) (earlier : List Block) (scale : ℕ) (block : Block) : Type 0 where
  pub least : Least P d earlier scale block
  pub one : IsOne block.task.kind least.t

-- what a task came to: least signatures and hints, or that there are none
abbrev pub IsRight : Program → ℕ → List Block → ℕ → Task → Body → Type 0
IsRight P d earlier scale task (Solved sigs hints) = LeastAt P d earlier scale (solving task sigs hints)
IsRight P d earlier scale task (c.Refuted farkas) = Refuted P d earlier task scale
IsRight P d earlier scale task (Calls fun) = Unit {0}

abbrev pub IsGood : Program → ℕ → (Meter → ℕ) → List Block → Block → Type 0
IsGood P d scales earlier block = IsRight P d earlier (scale_at scales block.task.kind) block.task block.body

abbrev pub AllGood : Program → ℕ → State → Type 0
AllGood P d st = AllAt (IsGood P d st.scales) st.blocks

-- the solved blocks of a certificate are least
abbrev pub AllLeast : Program → Certificate → Type 0
AllLeast P certificate = (place : ℕ) (block : Block) → slice_get certificate.blocks place ≡ Some block → IsSolved block.body →
    Least P certificate.degree (before certificate place) (scale_for certificate block.task.kind) block

-- the tasks of its refuted blocks are refuted
abbrev pub AllRefuted : Program → Certificate → Type 0
AllRefuted P certificate =
    (place : ℕ) (block : Block) (farkas : Entries) → slice_get certificate.blocks place ≡ Some block → block.body ≡ c.Refuted farkas →
    Refuted P certificate.degree (before certificate place) block.task (scale_for certificate block.task.kind)
