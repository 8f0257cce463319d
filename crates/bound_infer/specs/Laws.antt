-- What the refuted blocks of a certificate tell, and what the certificate of an analysis may meet.
use Rattle.std.specs.Prelude.{◌≡◌, ◌≤◌, ℕ, ℤ, List, Option, slice_get, Some}
use Rattle.annot_types.specs.Program.{Program}
use Rattle.annot_types.specs.Certificate.{Entries, Refuted, Block, Certificate}
use Rattle.annot_types.specs.Held.{before, scale_for, Held}
use Rattle.annot_types.specs.Least as l
use Rattle.annot_types.specs.System.{system, IsRefutedBy}
use Rattle.rules_spec.specs.Systems.{IsTask}
use Rattle.infer_spec.specs.Courses.{EndsAt}
use Rattle.infer_systems_laws.specs.Tried.{IsOrdered}
use Rattle.infer_systems_laws.specs.Analysed.{analysis_of}
use Rattle.cert_check.specs.declared.fault.CertFault.{CertFault}
use Rattle.cert_check.specs.declared.fault.CertFault.TheVariants as f
use Rattle.bound_infer.specs.Inferred.{VerifyCause}
use Rattle.bound_infer.specs.declared.refusal.VerifyFault.{VerifyFault}
use Rattle.bound_infer.specs.declared.refusal.VerifyFault.TheVariants as r

-- Each refuted block of a held certificate is of a task that has a system.
abbrev pub RefutedAreTasks : Type 0
RefutedAreTasks =
    (P : Program) → IsOrdered P → (c : Certificate) → Held P c →
    (place : ℕ) (block : Block) (farkas : Entries) → slice_get c.blocks place ≡ Some block → block.body ≡ Refuted farkas →
    IsTask P c.degree (before c place) block.task (scale_for c block.task.kind)

-- Where its vector refutes the system, nothing holds for the task.
abbrev pub VectorsRefute : Type 0
VectorsRefute =
    (P : Program) → IsOrdered P → (c : Certificate) → Held P c →
    (place : ℕ) (block : Block) (farkas : Entries) → slice_get c.blocks place ≡ Some block → block.body ≡ Refuted farkas →
    IsRefutedBy (system P c.degree (before c place) block.task (scale_for c block.task.kind)) farkas →
    l.Refuted P c.degree (before c place) block.task (scale_for c block.task.kind)

-- a number that leaves 128 bits, or want of memory
abbrev pub CheckLeaves : CertFault → Type 0
CheckLeaves (f.Shape block) = ⊥
CheckLeaves (f.Fails block path index) = ⊥
CheckLeaves (f.Leaves block path index) = Unit {0}
CheckLeaves (f.TooLarge task) = ⊥
CheckLeaves f.NoMemory = ⊥

abbrev pub OnlyLeaves : VerifyFault → Type 0
OnlyLeaves (r.Cert fault) = CheckLeaves fault
OnlyLeaves (r.NotRefuted block) = ⊥
OnlyLeaves (r.TooLarge task what) = ⊥
OnlyLeaves (r.Leaves at) = Unit {0}
OnlyLeaves r.NoMemory = Unit {0}

-- The certificate in which an analysis ends has no other fault.
abbrev pub CertificatesVerify : Type 0
CertificatesVerify =
    (P : Program) → IsOrdered P → (d : ℕ) → 1 ≤ d → d ≤ 4 → (pick : List ℤ → ℤ → Option ℕ) →
    (c : Certificate) → EndsAt (analysis_of P d pick) c → (fault : VerifyFault) → VerifyCause P c fault → OnlyLeaves fault
