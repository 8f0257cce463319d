use Rattle.std.proofs.Common.{◌≡◌, ◌<◌, ◌+◌, arith, rules}
use Rattle.index_shift.proofs.Steps.{listed_step}
use Rattle.tuple_ranks.specs.Columns.{up_to}
use Rattle.tuple_ranks.proofs.ranks.Ranks.counts.Goals as goal

pub loop-g-preserved : goal.loop-g-preserved
loop-g-preserved c =
    let same : c.self.inside.degree ≡ c.args.self.now.degree = search rules in
    let below : c.loop-g.g < 1 + c.args.self.now.degree = omega (arith, c.loop-g-test.true, c.from-g-end.ensures, same) in
    listed_step (up_to c.args.self.now) _ _ _ c.loop-g.g (1 + c.args.self.now.degree) _ below c.up_to.ensures c.in_ok-push.ensures.items c.loop-g.invariant
