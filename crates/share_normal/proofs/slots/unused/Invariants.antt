use Rattle.std.proofs.Common.{◌≡◌, ◌++◌, drop}
use Rattle.normal_spec.specs.Two as two
use Rattle.normal_spec.specs.Read.{norm_of}
use Rattle.share_normal.proofs.slots.unused.Given as goal

abbrev pub invariant-loop-slot : goal.invariant-loop-slot
invariant-loop-slot l = l.made.items ++ two.unused (norm_of l.marked.expr.now) (drop l.slot-index l.slots) ≡ two.unused (norm_of l.marked.expr.now) l.slots
