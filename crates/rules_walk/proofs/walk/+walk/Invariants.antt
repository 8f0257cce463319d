use Rattle.std.proofs.Common.{◌≡◌, ◌+◌, ◌*◌, map, drop}
use Rattle.rules_spec.specs.Walk.{mode_at}
use Rattle.rules_walk.specs.Steps.{part_of}
use Rattle.rules_walk.specs.Read.{size, sizes, plan_of, plans_of, hints_of, mode_of, each_from}
use Rattle.rules_walk.proofs.walk.+walk.Given as goal

abbrev pub decreases-walk : goal.decreases-walk
decreases-walk g l = 4 * size (plan_of l.plan.now)

abbrev pub decreases-walk_child : goal.decreases-walk_child
decreases-walk_child g l = 4 * size (plan_of l.plan.now) + 1

abbrev pub decreases-walk_pays : goal.decreases-walk_pays
decreases-walk_pays g l = 4 * size (plan_of l.rest.now) + 2

abbrev pub decreases-walk_moves : goal.decreases-walk_moves
decreases-walk_moves g l = 4 * size (plan_of l.rest.now) + 2

abbrev pub decreases-walk_shares : goal.decreases-walk_shares
decreases-walk_shares g l = 4 * size (plan_of l.rest.now) + 2

abbrev pub decreases-walk_forks : goal.decreases-walk_forks
decreases-walk_forks g l = 4 * (size (plan_of l.first.now) + size (plan_of l.second.now)) + 2

abbrev pub decreases-walk_lets : goal.decreases-walk_lets
decreases-walk_lets g l = 4 * (sizes (plans_of l.firsts.now) + size (plan_of l.rest.now)) + 3

abbrev pub decreases-walk_each : goal.decreases-walk_each
decreases-walk_each g l = 4 * sizes (plans_of l.firsts.now) + 2

abbrev pub decreases-walk_part : goal.decreases-walk_part
decreases-walk_part g l = 4 * sizes (plans_of l.firsts.now) + 1

abbrev pub invariant-walk_each-loop-number : goal.invariant-walk_each-loop-number
invariant-walk_each-loop-number g l = let A = g.T.Kind.kind in let J = g.J.Judge in let old = l.fn.judge in record {
  mode : mode_of l.mode ≡ mode_at l.number (mode_of l.here.mode);
  path : l.path.items ≡ l.fn.path.items;
  heard : J.after (J.verdict l.judge) (each_from A l.here.known.now (plans_of l.firsts) l.number (map part_of (drop l.number l.parts)) (map (λ v. v.items) l.told) (mode_of l.here.mode) l.fn.path.items l.q (hints_of l.rest)).found
      ≡ J.after (J.verdict old) (each_from A l.here.known.now (plans_of l.firsts) 0 (map part_of l.parts) (map (λ v. v.items) l.told) (mode_of l.here.mode) l.fn.path.items l.q (hints_of l.hints)).found;
  left : (each_from A l.here.known.now (plans_of l.firsts) l.number (map part_of (drop l.number l.parts)) (map (λ v. v.items) l.told) (mode_of l.here.mode) l.fn.path.items l.q (hints_of l.rest)).left
      ≡ (each_from A l.here.known.now (plans_of l.firsts) 0 (map part_of l.parts) (map (λ v. v.items) l.told) (mode_of l.here.mode) l.fn.path.items l.q (hints_of l.hints)).left;
}
