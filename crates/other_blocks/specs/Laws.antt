-- What the first fault of another block is.
use Rattle.std.specs.Prelude.{◌≡◌, ◌≤◌, ◌<◌, ◌*◌, ◌↔◌, ℕ, unsigned_abs, List, length, Option, None, Some}
use Rattle.cost_free.specs.declared.task.Meter.{Meter}
use Rattle.cost_free.specs.Task as k
use Rattle.annot_types.specs.Program.{Program}
use Rattle.annot_types.specs.Certificate.{IsSolved, Sig, Hint, Solved, Block, Certificate}
use Rattle.annot_types.specs.Held.{IsShaped, SigsRise, AllHintsRise, before, scale_of}
use Rattle.simplex_integers.specs.Wholes.{most}
use Rattle.rules_soundness_laws.specs.Laws.{HoldsAt}
use Rattle.rules_spec.specs.Faults as w
use Rattle.rules_spec.specs.Faults.{first_fault}
use Rattle.cert_check.specs.Fault.{Fault, Leaves}
use Rattle.cert_check.specs.Finds.{AreWithin, job, job_conditions}
use Rattle.cert_check.specs.Laws.{IsProper, NoneLeaves}
use Rattle.infer_spec.specs.Places.{BlockLeaves}
use Rattle.other_blocks.specs.Leaving.{state_before, NoneSolved}
use Rattle.other_blocks.specs.Other.{place, OwnIsTried, raised_certificate, raised_before, ScaleFits, OtherFinds}

-- There is one first fault, or none.
abbrev pub OneOtherFault : Type 0
OneOtherFault =
    (P : Program) (c : Certificate) (t : ℕ) (block : Block) (first other : Option Fault) →
    OtherFinds P c t block first → OtherFinds P c t block other → first ≡ other

-- The certificate's block of the task was tried; the block is of the right shape and holds with t over the blocks
-- before that one; no context or type in its walk has more than 2000 indices at its budget; and no total of its
-- conditions over the raised blocks leaves 127 bits, nor does its scale.
pub record IsOther (P : Program) (c : Certificate) (t : ℕ) (block : Block) : Type 0 where
  pub tried : OwnIsTried P c t block
  pub shape : IsShaped block.body
  pub holds : HoldsAt P c (place P c t block) block t
  pub within : AreWithin P c block.task
  pub totals : NoneLeaves P (raised_certificate P c t block) (raised_before P c t block) block.task block.body
  pub scale : ScaleFits P c t block

-- A solved block with cost has no fault exactly where it is so.
abbrev pub OthersExactly : Type 0
OthersExactly =
    (P : Program) → IsProper P → (c : Certificate) (t : ℕ) → 0 < t → (block : Block) (meter : Meter) →
    block.task.kind ≡ k.With meter → IsSolved block.body →
    OtherFinds P c t block None ↔ IsOther P c t block

-- The fault is the first condition of the block's walk over the raised blocks of which a total leaves 127 bits.
pub record IsTotal (P : Program) (c : Certificate) (t : ℕ) (block : Block) (sigs : List Sig)
    (hints : List (List Hint)) (fault : Fault) : Type 0 where
  pub path : List ℕ
  pub index : ℕ
  pub is : fault ≡ Leaves (place P c t block) path index
  pub first : first_fault (job_conditions
      (job P (raised_certificate P c t block) (raised_before P c t block) block.task) sigs hints) ≡ Some (w.Leaves path index)

-- A block of a task that was tried, which holds with t and whose numbers rise, has no other fault than that, where the scale times t fits.
abbrev pub HoldsLeavesAlone : Type 0
HoldsLeavesAlone =
    (P : Program) → IsProper P → (c : Certificate) (t : ℕ) → 0 < t →
    (group : ℕ) (meter : Meter) (sigs : List Sig) (hints : List (List Hint)) →
    let block : Block = record { task = record { group = group; kind = k.With meter }; body = Solved sigs hints } in
    OwnIsTried P c t block → place P c t block ≤ length c.blocks →
    SigsRise sigs → AllHintsRise hints → HoldsAt P c (place P c t block) block t → AreWithin P c block.task → ScaleFits P c t block →
    (fault : Fault) → OtherFinds P c t block (Some fault) → IsTotal P c t block sigs hints fault

-- Where no block of the meter before a place leaves, and the scale does not where none is solved, the scale times t fits.
abbrev pub RisesFit : Type 0
RisesFit =
    (P : Program) (c : Certificate) (t : ℕ) (block : Block) (meter : Meter) → block.task.kind ≡ k.With meter → (place : ℕ) →
    ((k : ℕ) → BlockLeaves meter t (state_before c place) k → ⊥) →
    (NoneSolved meter (before c place) → t * unsigned_abs (scale_of c meter) < most) →
    ScaleFits P c t block
