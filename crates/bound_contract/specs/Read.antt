-- What the code's declared bounds, decisions and faults are as plain data.
use Rattle.std.specs.Prelude.{◌==◌, if◌then◌else◌, ℕ, ℤ, pos, ◌<ℤ◌, List, [], ◌∷◌, Option, Some, None}
use Rattle.bound_contract.specs.Decided as d
use Rattle.bound_contract.specs.Decided.{Decided}
use Rattle.bound_contract.specs.Places as p
use Rattle.bound_contract.specs.Places.{Place}
use Rattle.bound_contract.specs.declared.decision.Decision.{Decision}
use Rattle.bound_contract.specs.declared.decision.Decision.TheVariants.{Kept, NotKept, Calls}
use Rattle.bound_contract.specs.declared.fault.DeclAt.{DeclAt}
use Rattle.bound_contract.specs.declared.fault.DeclAt.TheVariants.{Row, Right, Solve, Scale, Rescale, Check, Refute}
use Rattle.bound_contract.specs.declared.fault.DecideFault.{DecideFault}
use Rattle.bound_contract.specs.declared.fault.DecideFault.TheVariants.{TooLarge, Leaves, NoMemory}

-- numerators and denominators are positive
abbrev pub AllPositive : List (ℕ × ℤ × ℤ) → Type 0
AllPositive [] = Unit {0}
AllPositive (c ∷ cs) = (pos 0 <ℤ c.1) × (pos 0 <ℤ c.2) × AllPositive cs

-- what the code reads at a position
abbrev pub numerator_in : ℕ → List (ℕ × ℤ × ℤ) → ℤ
numerator_in k [] = pos 0
numerator_in k (c ∷ cs) = if c.0 == k then c.1 else numerator_in k cs

abbrev pub denominator_in : ℕ → List (ℕ × ℤ × ℤ) → ℤ
denominator_in k [] = pos 1
denominator_in k (c ∷ cs) = if c.0 == k then c.2 else denominator_in k cs

abbrev pub decided_of : Decision → Decided
decided_of (Kept other) = d.Kept other
decided_of (NotKept farkas) = d.NotKept farkas.items
decided_of (Calls fun) = d.Calls fun.0

abbrev pub leaves_at : DeclAt → Place
leaves_at (Row row) = p.Row row
leaves_at (Right position) = p.Right position
leaves_at (Solve pivots row col) = p.Solve pivots.items row col
leaves_at (Scale entry) = p.Scale entry
leaves_at (Rescale block) = p.Rescale block
leaves_at (Check path index) = p.Check path.items index
leaves_at (Refute column) = p.Refute column

-- None where memory is wanting
abbrev pub place_of : DecideFault → Option Place
place_of TooLarge = Some p.TooLarge
place_of (Leaves at) = Some (leaves_at at)
place_of NoMemory = None

-- of a place this is claimed, and of want of memory nothing
abbrev pub OfPlace : Option Place → (Place → Type 0) → Type 0
OfPlace None claim = Unit {0}
OfPlace (Some p) claim = claim p
