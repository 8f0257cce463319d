-- What the check of the vectors of a certificate comes to.
use Rattle.std.specs.Prelude.{◌≡◌, ◌<◌, ℕ, slice_get, Option, None, Some, Ok, Err, Result}
use Rattle.linear_rows.specs.Systems.{LinearSystem}
use Rattle.cost_free.specs.Task.{Task}
use Rattle.cost_free.specs.Read.{task_of}
use Rattle.annot_types.specs.Program.{Program}
use Rattle.annot_types.specs.Certificate.{Entries, Body, Solved, Refuted, Calls, Block, Certificate}
use Rattle.annot_types.specs.Held.{before, scale_for}
use Rattle.annot_types.specs.System.{system, IsRefutedBy}
use Rattle.constraint_gen.specs.declared.fault.GenFault.{GenFault}
use Rattle.constraint_gen.specs.declared.fault.GenFault.TheVariants as n
use Rattle.infer_spec.specs.Generator.{What, limit_of}
use Rattle.infer_spec.specs.Verifying as v
use Rattle.infer_systems_laws.specs.Analysed.{generator_of}
use Rattle.bound_infer.specs.Inferred.{what_of}
use Rattle.bound_infer.specs.declared.leaves.LeavesAt.{LeavesAt}
use Rattle.bound_infer.specs.declared.leaves.LeavesAt.TheVariants.{Row, Refute}
use Rattle.bound_infer.specs.declared.refusal.VerifyFault.{VerifyFault}
use Rattle.bound_infer.specs.declared.refusal.VerifyFault.TheVariants as r
use Rattle.bound_infer.specs.declared.refuting.VectorFault.{VectorFault}
use Rattle.bound_infer.specs.declared.refuting.VectorFault.TheVariants as f

-- None where memory is wanting
abbrev pub fault_of : VectorFault → Option v.Fault
fault_of (f.TooLarge what) = Some (v.TooLarge (what_of what))
fault_of (f.Row row) = Some (v.Row row)
fault_of f.NotRefuted = Some v.NotRefuted
fault_of (f.Refute column) = Some (v.Refute column)
fault_of f.NoMemory = None

-- why there is no system
abbrev pub gen_fault : GenFault → Option v.Fault
gen_fault (n.TooLarge what) = Some (v.TooLarge (what_of what))
gen_fault (n.Leaves row) = Some (v.Row row)
gen_fault n.NoMemory = None

-- where there is a fault, this is claimed of it
abbrev pub OfFault : Option v.Fault → (v.Fault → Type 0) → Type 0
OfFault None claim = Unit {0}
OfFault (Some fault) claim = claim fault

-- The vector refutes the system, and has no fault.
pub record IsClear (limit : Option What) (s : LinearSystem) (farkas : Entries) : Type 0 where
  pub refuted : IsRefutedBy s farkas
  pub clear : (fault : v.Fault) → v.VectorFault limit s farkas fault → ⊥

-- so it is, or it has this fault
abbrev pub Tells : {A : Type 0} → Result A VectorFault → Option What → LinearSystem → Entries → Type 0
Tells (Ok x) limit s farkas = IsClear limit s farkas
Tells (Err fault) limit s farkas = OfFault (fault_of fault) (v.VectorFault limit s farkas)

module _ (P : Program) (c : Certificate) where
  -- the system of the block at this place
  abbrev pub system_at : ℕ → Block → LinearSystem
  system_at place block = system P c.degree (before c place) block.task (scale_for c block.task.kind)

  abbrev pub limit_at : ℕ → Block → Option What
  limit_at place block = limit_of (generator_of P c.degree) block.task (system_at place block)

  -- its vector, where it is refuted, is clear
  abbrev pub BodyClear : ℕ → Block → Body → Type 0
  BodyClear place block (Refuted farkas) = IsClear (limit_at place block) (system_at place block) farkas
  BodyClear place block (Solved sigs hints) = Unit {0}
  BodyClear place block (Calls fun) = Unit {0}

  -- those of the blocks before this place are
  abbrev pub ClearBefore : ℕ → Type 0
  ClearBefore count = (place : ℕ) (block : Block) → place < count → slice_get c.blocks place ≡ Some block → BodyClear place block block.body

  abbrev pub Faulty : ℕ → v.Fault → Type 0
  Faulty place fault = v.BlockFault P (generator_of P c.degree) c place fault

  -- what is told of the block of this task at this place, where its vector has a fault
  abbrev pub LeavesThere : ℕ → Task → LeavesAt → Type 0
  LeavesThere place task (Row named row) = (task_of named ≡ task) × Faulty place (v.Row row)
  LeavesThere place task (Refute named column) = (task_of named ≡ task) × Faulty place (v.Refute column)
  LeavesThere place task _ = ⊥

  abbrev pub BlockCause : ℕ → Task → VerifyFault → Type 0
  BlockCause place task (r.Cert fault) = ⊥
  BlockCause place task (r.NotRefuted block) = (block ≡ place) × Faulty place v.NotRefuted
  BlockCause place task (r.TooLarge named what) = (task_of named ≡ task) × Faulty place (v.TooLarge (what_of what))
  BlockCause place task (r.Leaves at) = LeavesThere place task at
  BlockCause place task r.NoMemory = Unit {0}

-- The block is clear, or the cause is told.
abbrev pub BlockTells : {A : Type 0} → Program → Certificate → ℕ → Block → Result A VerifyFault → Type 0
BlockTells P c place block (Ok x) = BodyClear P c place block block.body
BlockTells P c place block (Err fault) = BlockCause P c place block.task fault
