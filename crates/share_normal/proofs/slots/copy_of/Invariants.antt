use Rattle.std.proofs.Common.{◌≡◌, drop}
use Rattle.normal_spec.specs.Two as two
use Rattle.share_normal.proofs.slots.copy_of.Given as goal

abbrev pub invariant-loop-slot : goal.invariant-loop-slot
invariant-loop-slot l = two.copy_of l.variable (drop l.slot-index l.slots) ≡ two.copy_of l.variable l.slots
