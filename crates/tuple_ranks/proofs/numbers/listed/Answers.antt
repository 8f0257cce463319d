use Rattle.std.proofs.Common.{◌+◌, ◌∙◌, arith}
use Rattle.tuple_ranks.specs.Columns.{sizes_in}
use Rattle.tuple_ranks.proofs.Walked.{listed_step}
use Rattle.tuple_ranks.proofs.numbers.listed.Goals as goal

pub loop-g-preserved : goal.loop-g-preserved
loop-g-preserved c = record {
  found = listed_step (sizes_in c.args.columns.now) c.loop-g.g (1 + c.args.d) c.loop-g.before.items c.loop-g.found.items _ _ (omega (arith, c.loop-g-test.true, c.from-g-end.ensures)) c.loop-g.invariant.before
      c.in_ok-append.ensures.all c.loop-g.invariant.found;
  before = c.in_ok-append.ensures.kept ∙ c.loop-g.invariant.before;
}
