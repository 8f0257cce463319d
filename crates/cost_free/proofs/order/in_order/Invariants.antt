use Rattle.std.proofs.Common.{◌≡◌, vec_len}
use Rattle.cost_free.specs.Target.{in_order}
use Rattle.cost_free.specs.Joining.{all_joined}
use Rattle.cost_free.proofs.Put.{put_all}
use Rattle.cost_free.proofs.order.in_order.Given as goal

abbrev pub invariant-loop-target : goal.invariant-loop-target
invariant-loop-target l = put_all (all_joined l.rest.items) (all_joined l.ordered.items) ≡ in_order (all_joined l.fn.targets.items)

abbrev pub decreases-loop-target : goal.decreases-loop-target
decreases-loop-target l = vec_len l.rest
