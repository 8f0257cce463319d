use Rattle.std.proofs.Common.{arith}
use Rattle.rules_walk.proofs.AskedAt.{fewer_within, more_within}
use Rattle.rules_walk.proofs.shape.each_within.Goals as goal

pub returns-then-sizes-results : goal.returns-then-sizes-results
returns-then-sizes-results c = fewer_within c.args.sizes.now c.args.results.now (omega (arith, c.if-sizes-results.true))

pub returns-then-results-sizes : goal.returns-then-results-sizes
returns-then-results-sizes c = more_within c.args.sizes.now c.args.results.now (omega (arith, c.if-results-sizes.true))
