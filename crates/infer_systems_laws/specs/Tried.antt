-- Tasks that are tried.
use Rattle.std.specs.Prelude.{◌≡◌, ℕ, slice_get, Some, None}
use Rattle.linear_rows.specs.Systems.{IsSystem}
use Rattle.cost_free.specs.Task.{Task}
use Rattle.annot_types.specs.Program.{Program, blocker_of}
use Rattle.annot_types.specs.Certificate.{Block, Certificate}
use Rattle.annot_types.specs.Held.{Held, before, done_before, scale_for}
use Rattle.annot_types.specs.System.{system}
use Rattle.rules_spec.specs.Systems.{IsTask}
pub use Rattle.rules_systems_laws.specs.Ordered.{IsOrdered}
use Rattle.infer_spec.specs.States.{State, scale_at}
use Rattle.infer_spec.specs.Generator.{Analysis, system_at, Stands}

-- What a tried task's system asks for is there: its functions, and a signature with cost for each that is called from outside of its group.
abbrev pub TriedAreTasks : Type 0
TriedAreTasks =
    (A : Analysis) → IsOrdered A.program → (st : State) (task : Task) → Stands A st task →
    IsTask A.program A.degree st.blocks task (scale_at st.scales task.kind)

-- It has a system, over its own unknowns and with natural weights.
abbrev pub TriedHaveSystems : Type 0
TriedHaveSystems = (A : Analysis) → IsOrdered A.program → (st : State) (task : Task) → Stands A st task → IsSystem (system_at A st task)

-- Of a certificate that is held, a block that was tried is of a task, over the blocks before it, that has a system.
abbrev pub TriedHaveTasks : Type 0
TriedHaveTasks =
    (P : Program) → IsOrdered P → (c : Certificate) → Held P c → (place : ℕ) (block : Block) →
    slice_get c.blocks place ≡ Some block → blocker_of P block.task (done_before c place) ≡ None →
    IsTask P c.degree (before c place) block.task (scale_for c block.task.kind)
    × IsSystem (system P c.degree (before c place) block.task (scale_for c block.task.kind))
