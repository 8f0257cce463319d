-- The first fault of another block of a task, whose meter is multiplied by t.
use Rattle.std.specs.Prelude.{◌≡◌, ◌⊎◌, ◌<◌, ℕ, suc, cond, List, [], ◌∷◌, length, slice_get, Option, None, Some, option_map}
use Rattle.std.specs.Option.{unwrap_or}
use Rattle.cost_free.specs.Task.{Task}
use Rattle.annot_types.specs.Program.{Program}
use Rattle.annot_types.specs.Certificate.{Body, Calls, Block, Certificate}
use Rattle.annot_types.specs.Holds.{blocks_before}
use Rattle.annot_types.specs.Held.{before, scale_for}
use Rattle.rules_spec.specs.Faults.{too_great}
use Rattle.cert_check.specs.Fault.{Fault, Shape, Leaves, Unless}
use Rattle.cert_check.specs.Finds.{BodyFinds}
use Rattle.cert_check.specs.Same.{same_task}
use Rattle.other_blocks.specs.Raised.{raised_for}

-- the place of the first block of the task
abbrev pub place_among : Task → List Block → Option ℕ
place_among task [] = None
place_among task (b ∷ bs) = cond (same_task task b.task) (Some 0) (option_map suc (place_among task bs))

-- A block that waits was not tried.
abbrev pub IsTried : Body → Type 0
IsTried (Calls fun) = ⊥
IsTried body = Unit {0}

-- The certificate's first block of the task stands at this place, and it was tried.
pub record IsOwn (c : Certificate) (task : Task) (place : ℕ) : Type 0 where
  pub first : place_among task c.blocks ≡ Some place
  pub there : place < length c.blocks
  pub tried : (own : Block) → slice_get c.blocks place ≡ Some own → IsTried own.body

module _ (P : Program) (c : Certificate) (t : ℕ) (block : Block) where
  -- where the certificate's block of the task stands
  abbrev pub place : ℕ
  place = unwrap_or (place_among block.task c.blocks) 0

  abbrev pub OwnIsTried : Type 0
  OwnIsTried = (own : Block) → slice_get c.blocks place ≡ Some own → IsTried own.body

  abbrev pub raised_certificate : Certificate
  raised_certificate = raised_for t c block.task.kind

  -- the blocks before it, of which those of its meter are multiplied
  abbrev pub raised_before : List Block
  raised_before = blocks_before block.task.kind t (before c place)

  abbrev pub ScaleFits : Type 0
  ScaleFits = scale_for raised_certificate block.task.kind < too_great

  -- what is found in the block's body there
  abbrev pub ThereFinds : Option Fault → Type 0
  ThereFinds found = BodyFinds P raised_certificate raised_before block.task block.body found

  -- A scale that leaves 127 bits is told at the first condition that it makes leave, and behind all of them where there is none.
  abbrev pub ScaleFinds : Option Fault → Type 0
  ScaleFinds found = Unless ScaleFits (Some (Leaves place [] 0)) found (found ≡ None)

  abbrev pub RaisedFinds : Option Fault → Type 0
  RaisedFinds found = (ThereFinds None × ScaleFinds found) ⊎ ((fault : Fault) × ThereFinds (Some fault) × (found ≡ Some fault))

  -- The first fault of the block, in the place of the certificate's block of its task; None where there is none.
  abbrev pub OtherFinds : Option Fault → Type 0
  OtherFinds found = Unless OwnIsTried (Some (Shape place)) found (RaisedFinds found)
