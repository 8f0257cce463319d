use Rattle.std.proofs.Common.{◌+◌, arith, slice_index_or}
use Rattle.base_poly.specs.Base.{total}
use Rattle.index_shift.specs.Tables.{fits}
use Rattle.index_shift.proofs.Steps.{listed_step}
use Rattle.tuple_ranks.proofs.columns.totals.Goals as goal

pub loop-g-preserved : goal.loop-g-preserved
loop-g-preserved c =
    listed_step (λ g. total (fits (λ r. slice_index_or c.args.numbers.now r 0) g) c.args.degrees.now) _ _ _ c.loop-g.g (1 + c.args.d) _ (omega (arith, c.loop-g-test.true, c.from-g-end.ensures))
    c.in_ok-total.ensures.all c.in_ok-push.ensures.ok c.loop-g.invariant
