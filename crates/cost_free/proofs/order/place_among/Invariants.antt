use Rattle.std.proofs.Common.{◌≡◌, ◌++◌, take, drop}
use Rattle.cost_free.specs.Target.{put}
use Rattle.cost_free.specs.Joining.{joined_of, all_joined}
use Rattle.cost_free.proofs.order.place_among.Given as goal

abbrev pub invariant-loop-other : goal.invariant-loop-other
invariant-loop-other l = record {
  place : l.place ≡ l.other-index;
  done : all_joined (take l.other-index l.ordered) ++ put (joined_of l.target) (all_joined (drop l.other-index l.ordered)) ≡ put (joined_of l.target) (all_joined l.ordered);
}
