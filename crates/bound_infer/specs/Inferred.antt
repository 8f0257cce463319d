-- What the inference and the verification of a certificate come to.
use Rattle.std.specs.Prelude.{◌≡◌, ◌≢◌, ℕ, List, slice_get, None, Some}
use Rattle.cost_free.specs.Task.{Task}
use Rattle.cost_free.specs.Read.{task_of}
use Rattle.annot_types.specs.Program.{Program}
use Rattle.annot_types.specs.Certificate.{Block, Certificate}
use Rattle.infer_spec.specs.Generator as g
use Rattle.infer_spec.specs.Generator.{Analysis}
use Rattle.infer_spec.specs.Places as p
use Rattle.infer_spec.specs.Courses.{EndsAt}
use Rattle.infer_spec.specs.Verifying as v
use Rattle.cert_check.specs.Fault as f
use Rattle.cert_check.specs.Finds.{FirstFault}
use Rattle.cert_check.specs.Laws.{IsFaultless}
use Rattle.cert_check.specs.Read.{fault_of}
use Rattle.infer_systems_laws.specs.Analysed.{generator_of}
use Rattle.bound_infer.specs.After.{ComesTo}
pub use Rattle.bound_infer.specs.Told.{what_of}
use Rattle.bound_infer.specs.Told.{told_of}
use Rattle.bound_infer.specs.declared.leaves.LeavesAt.{LeavesAt}
use Rattle.bound_infer.specs.declared.leaves.LeavesAt.TheVariants.{Solve, Row, Scale, Rescale, Check, Refute, Least}
use Rattle.bound_infer.specs.declared.refusal.InferFault.{InferFault}
use Rattle.bound_infer.specs.declared.refusal.InferFault.TheVariants as i
use Rattle.bound_infer.specs.declared.refusal.VerifyFault.{VerifyFault}
use Rattle.bound_infer.specs.declared.refusal.VerifyFault.TheVariants as r

-- The course of the analysis ends in this certificate, and the check finds no fault in it.
pub record IsInferred (A : Analysis) (c : Certificate) : Type 0 where
  pub ends : EndsAt A c
  pub passes : FirstFault A.program c None

-- The course ends, and the first fault that the check finds is a total that leaves 128 bits there.
pub record LeavesInCheck (A : Analysis) (block : ℕ) (path : List ℕ) (index : ℕ) : Type 0 where
  pub certificate : Certificate
  pub ends : EndsAt A certificate
  pub first : FirstFault A.program certificate (Some (f.Leaves block path index))

-- Where a number leaves in an analysis: the course comes to the place, or it ends and the check of its certificate does.
abbrev pub LeavesIn : Analysis → LeavesAt → Type 0
LeavesIn A (Check block path index) = LeavesInCheck A block path.items index
LeavesIn A (Solve task pivots row col) = ComesTo A (told_of (Solve task pivots row col))
LeavesIn A (Row task row) = ComesTo A (told_of (Row task row))
LeavesIn A (Scale task entry) = ComesTo A (told_of (Scale task entry))
LeavesIn A (Rescale task block) = ComesTo A (told_of (Rescale task block))
LeavesIn A (Refute task column) = ComesTo A (told_of (Refute task column))
LeavesIn A (Least task column) = ComesTo A (told_of (Least task column))

-- why an analysis has no certificate
abbrev pub InferCause : Analysis → InferFault → Type 0
InferCause A (i.TooLarge task what) = ComesTo A (Some (task_of task, p.TooLarge (what_of what)))
InferCause A (i.Leaves at) = LeavesIn A at
InferCause A i.NoMemory = Unit {0}

-- The certificate is held, within the limits, and no total leaves 128 bits; and no vector of it has a fault.
pub record IsVerified (P : Program) (c : Certificate) : Type 0 where
  pub faultless : IsFaultless P c
  pub clear : (place : ℕ) (fault : v.Fault) → v.BlockFault P (generator_of P c.degree) c place fault → ⊥

-- The system of no refuted block leaves the limits.
abbrev pub SystemsAreSmall : Program → Certificate → Type 0
SystemsAreSmall P c = (place : ℕ) (what : g.What) → v.BlockFault P (generator_of P c.degree) c place (v.TooLarge what) → ⊥

-- The check finds none, and this is the first fault of a vector, of the block at this place.
pub record VectorFault (P : Program) (c : Certificate) (place : ℕ) (fault : v.Fault) : Type 0 where
  pub passes : FirstFault P c None
  pub first : v.FirstFault P (generator_of P c.degree) c place fault

-- of a block of this task
pub record TaskFault (P : Program) (c : Certificate) (task : Task) (fault : v.Fault) : Type 0 where
  pub place : ℕ
  pub block : Block
  pub there : slice_get c.blocks place ≡ Some block
  pub is : block.task ≡ task
  pub has : VectorFault P c place fault

-- where a number leaves in the check of a certificate's vectors
abbrev pub LeavesVector : Program → Certificate → LeavesAt → Type 0
LeavesVector P c (Row task row) = TaskFault P c (task_of task) (v.Row row)
LeavesVector P c (Refute task column) = TaskFault P c (task_of task) (v.Refute column)
LeavesVector P c _ = ⊥

-- why a certificate is not verified; the fault of the check is no want of memory
abbrev pub VerifyCause : Program → Certificate → VerifyFault → Type 0
VerifyCause P c (r.Cert fault) = (fault_of fault ≢ None) × FirstFault P c (fault_of fault)
VerifyCause P c (r.NotRefuted block) = VectorFault P c block v.NotRefuted
VerifyCause P c (r.TooLarge task what) = TaskFault P c (task_of task) (v.TooLarge (what_of what))
VerifyCause P c (r.Leaves at) = LeavesVector P c at
VerifyCause P c r.NoMemory = Unit {0}

-- a number that leaves 128 bits in the check of a vector, or want of memory
abbrev pub VectorsLeave : VerifyFault → Type 0
VectorsLeave (r.Cert fault) = ⊥
VectorsLeave (r.NotRefuted block) = ⊥
VectorsLeave (r.TooLarge task what) = ⊥
VectorsLeave (r.Leaves at) = Unit {0}
VectorsLeave r.NoMemory = Unit {0}

-- The certificate, verified again with the same program, is refused for nothing else.
abbrev pub VerifiesAgain : Program → Certificate → Type 0
VerifiesAgain P c = (fault : VerifyFault) → VerifyCause P c fault → VectorsLeave fault
