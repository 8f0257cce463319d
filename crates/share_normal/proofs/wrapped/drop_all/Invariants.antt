use Rattle.std.proofs.Common.{◌≡◌, vec_len}
use Rattle.normal_spec.specs.Two as two
use Rattle.normal_spec.specs.Read.{norm_of}
use Rattle.share_normal.proofs.wrapped.drop_all.Given as goal

abbrev pub invariant-loop-slot : goal.invariant-loop-slot
invariant-loop-slot l = two.drop_all l.slots.items (norm_of l.made) ≡ two.drop_all l.fn.slots.items (norm_of l.fn.rest)

abbrev pub decreases-loop-slot : goal.decreases-loop-slot
decreases-loop-slot l = vec_len l.slots
