use Rattle.std.proofs.Common.{◌<◌, ◌+◌, ◌∙◌, ap, arith, slice_index_or}
use Rattle.index_shift.proofs.Steps.{listed_step}
use Rattle.tuple_ranks.specs.Columns.{below}
use Rattle.tuple_ranks.proofs.Made.{below_more}
use Rattle.tuple_ranks.proofs.ranks.starts.Goals as goal

pub loop-g-preserved : goal.loop-g-preserved
loop-g-preserved c =
    let under : c.loop-g.g < 1 + c.args.d = omega (arith, c.loop-g-test.true, c.from-g-end.ensures) in
    let exact = c.in_ok-low.ensures.exact in
    record {
      found = listed_step (below (λ g. slice_index_or c.args.counts.now g 0)) _ _ _ c.loop-g.g (2 + c.args.d) _ (omega (arith, under)) c.loop-g.invariant.low c.in_ok-push.ensures.ok c.loop-g.invariant.found;
      low = exact ∙ ap (λ n. n + c.number_at.result) c.loop-g.invariant.low ∙ ap (λ n. below (λ g. slice_index_or c.args.counts.now g 0) c.loop-g.g + n) (c.number_at.ensures ∙ ap (λ k. slice_index_or c.args.counts.now k 0) c.from.ensures) ∙ below_more (λ g. slice_index_or c.args.counts.now g 0) c.loop-g.g;
      few = (let few = c.in_ok-low.ensures.few in omega (arith, exact, few));
      end = omega (arith, under);
    }
