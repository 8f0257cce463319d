use Rattle.std.proofs.Common.{◌∙◌, ap, slice_index_or}
use Rattle.index_shift.specs.Lift.{one_row}
use Rattle.index_shift.specs.Read.{counts_of}
use Rattle.index_shift.proofs.Steps.{rows_step}
use Rattle.index_shift.proofs.lift.append_rows.Goals as goal

pub loop-y-preserved : goal.loop-y-preserved
loop-y-preserved c =
    rows_step (one_row (counts_of c.args.counts.now) c.args.p c.args.k c.args.r c.args.targets.now) c.loop-y.y _ c.number_at-y-end.result _ _ _
    (c.number_at-y-end.ensures ∙ ap (λ l. slice_index_or l c.args.r 0) c.as_slice.ensures) c.loop-y-test.true
    (λ n. (c.in_ok-append_row.ensures n, c.in_ok-from.ensures n)) c.loop-y.invariant
