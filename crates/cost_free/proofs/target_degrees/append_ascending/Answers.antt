use Rattle.std.proofs.Common.{◌≡◌, ◌-◌, ◌+◌, ◌<◌, filter, nat_eq, arith}
use Rattle.cost_free.proofs.GroupTasks.{budget_step}
use Rattle.cost_free.proofs.target_degrees.append_ascending.Goals as goal

pub loop-degree-preserved : goal.loop-degree-preserved
loop-degree-preserved c =
    let n = c.args.d + 1 in
    let some : 0 < n - c.loop-degree.degree = omega (arith, c.loop-degree-test.true) in
    let next : n - (c.loop-degree.degree + 1) ≡ n - c.loop-degree.degree - 1 = omega arith in
    budget_step (λ g. filter (λ n. nat_eq n g) c.args.units.now) c.loop-degree.degree (n - c.loop-degree.degree) (n - (c.loop-degree.degree + 1)) _ _ _
    some next c.in_ok-append_equal.ensures c.loop-degree.invariant
