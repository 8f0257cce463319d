use Rattle.std.proofs.Common.{◌≡◌, ◌++◌, drop, cond}
use Rattle.normal_spec.specs.Two as two
use Rattle.share_normal.proofs.slots.put.Given as goal

abbrev pub invariant-loop-slot : goal.invariant-loop-slot
invariant-loop-slot l =
    l.made.items ++ cond l.found (drop l.slot-index l.slots) (two.put l.variable (l.new ++ l.stay) (drop l.slot-index l.slots)) ≡ two.put l.variable (l.new ++ l.stay) l.slots
