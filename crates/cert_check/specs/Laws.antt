-- What the first fault is.
use Rattle.std.specs.Prelude.{◌≡◌, ◌<◌, ◌↔◌, ℕ, List, [], ◌∷◌, slice_get, Option, None, Some}
use Rattle.std.specs.List.{All}
use Rattle.raml_syntax.specs.Tree.{Function, Prog}
use Rattle.raml_syntax.specs.Types.{Typed}
use Rattle.raml_syntax.specs.Node.{AllNodes, NumberFits}
use Rattle.normal_spec.specs.Norm.{NormFun}
use Rattle.normal_spec.specs.Uses.{Uses}
use Rattle.call_groups.specs.Groups.{Grouping, IsGrouping}
use Rattle.annot_types.specs.Program.{Program, members}
use Rattle.annot_types.specs.Certificate.{Solved, Body, Block, Certificate}
use Rattle.annot_types.specs.Held.{Held, IfSolved, before}
use Rattle.cost_free.specs.Task.{Task}
use Rattle.rules_soundness_laws.specs.Laws.{normal_of}
use Rattle.rules_spec.specs.Numbers.{Condition}
use Rattle.rules_spec.specs.Kinds.{Amount, total_left, total_right}
use Rattle.rules_spec.specs.Faults.{too_great}
use Rattle.cert_check.specs.Fault.{Fault, Shape, Fails, Leaves, TooLarge}
use Rattle.cert_check.specs.Finds.{FirstFault, GoesOn, AreWithin, job, job_conditions}

-- There is one first fault, or none.
abbrev pub OneFirstFault : Type 0
OneFirstFault = (P : Program) (c : Certificate) (first other : Option Fault) → FirstFault P c first → FirstFault P c other → first ≡ other

-- functions of the program
abbrev pub AllThere : Program → List ℕ → Type 0
AllThere P [] = Unit {0}
AllThere P (f ∷ fs) = ((g : NormFun) × (slice_get P.funs f ≡ Some g)) × AllThere P fs

-- Bodies use their parameters, and the functions of groups are functions of the program.
pub record IsProper (P : Program) : Type 0 where
  pub uses : (f : ℕ) (g : NormFun) → slice_get P.funs f ≡ Some g → Uses P.funs g.params g.body g.result
  pub there : (group : ℕ) → AllThere P (members P group)

-- The normal form of a typed program, with its groups, is proper.
abbrev pub NormalsAreProper : Type 0
NormalsAreProper =
    (P : Prog) → Typed P → All (λ (g : Function). AllNodes NumberFits g.body) P →
    (groups : Grouping) → IsGrouping P groups →
    IsProper (normal_of P groups.list)

-- A certificate without fault is held.
abbrev pub NoFaultIsHeld : Type 0
NoFaultIsHeld = (P : Program) → IsProper P → (c : Certificate) → FirstFault P c None → Held P c

-- a total that leaves 127 bits
abbrev pub IsLeaving : Fault → Type 0
IsLeaving (Leaves number path index) = Unit {0}
IsLeaving (Shape number) = ⊥
IsLeaving (Fails number path index) = ⊥
IsLeaving (TooLarge task) = ⊥

-- The schedule goes on after all first blocks, and no context or type of the walks through the bodies of a solved
-- block's group has more than 2000 indices at its budget.
pub record IsSmall (P : Program) (c : Certificate) : Type 0 where
  pub goes_on : (place : ℕ) → GoesOn P c (before c place)
  pub within : (place : ℕ) (block : Block) → slice_get c.blocks place ≡ Some block → IfSolved block.body (AreWithin P c block.task)

-- A certificate that is held and small has no fault but a total that leaves 127 bits.
abbrev pub HeldLeavesAlone : Type 0
HeldLeavesAlone =
    (P : Program) → IsProper P → (c : Certificate) → Held P c → IsSmall P c →
    (fault : Fault) → FirstFault P c (Some fault) → IsLeaving fault

-- no total of these conditions leaves 127 bits
abbrev pub TotalsFit : List (Condition Amount) → Type 0
TotalsFit [] = Unit {0}
TotalsFit (c ∷ cs) = (total_left c < too_great) × (total_right c < too_great) × TotalsFit cs

-- none of those of a block's bodies, where it is solved
abbrev pub NoneLeaves : Program → Certificate → List Block → Task → Body → Type 0
NoneLeaves P c earlier task (Solved sigs hints) = TotalsFit (job_conditions (job P c earlier task) sigs hints)
NoneLeaves P c earlier task body = Unit {0}

-- It is held and small, and no total of a solved block leaves 127 bits.
pub record IsFaultless (P : Program) (c : Certificate) : Type 0 where
  pub held : Held P c
  pub small : IsSmall P c
  pub totals : (place : ℕ) (block : Block) → slice_get c.blocks place ≡ Some block → NoneLeaves P c (before c place) block.task block.body

-- A certificate has no fault exactly where it is so.
abbrev pub FaultlessExactly : Type 0
FaultlessExactly = (P : Program) → IsProper P → (c : Certificate) → FirstFault P c None ↔ IsFaultless P c
