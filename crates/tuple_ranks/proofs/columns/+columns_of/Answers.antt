use Rattle.std.proofs.Common.{◌∷◌, Err, ap, ◌∙◌}
use Rattle.tuple_ranks.specs.Read.{lists_of}
use Rattle.tuple_ranks.proofs.Made.{of_fault, counts_more, large_more, behind_large}
use Rattle.tuple_ranks.proofs.columns.+columns_of.Goals as goal

pub with_first-returns-in_err-behind-clause-many : goal.with_first-returns-in_err-behind-clause-many
with_first-returns-in_err-behind-clause-many t c = λ e.
    behind_large c.args.first.now (lists_of c.args.rest.now) c.args.d (c.in_err-behind.ensures.many (ap Err (of_fault _ _ c.from_residual.ensures.1 e)))

pub with_first-returns-in_err-counts-clause-many : goal.with_first-returns-in_err-counts-clause-many
with_first-returns-in_err-counts-clause-many t c = λ e.
    large_more (lists_of c.args.rest.now) c.args.d c.as_slice.result.now (c.as_slice.ensures ∙ c.in_ok-behind.ensures.counts) c.args.first.now
    (c.in_err-counts.ensures.many (ap Err (of_fault _ _ c.from_residual-in_err-counts.ensures.1 e)))

pub with_first-returns-clause-columns : goal.with_first-returns-clause-columns
with_first-returns-clause-columns t c = c.in_ok-led.ensures ∙ (λ i. record { sizes = c.args.first.now; behind = c.in_ok-behind.ensures.counts i } ∷ c.in_ok-behind.ensures.columns i)

pub with_first-returns-clause-counts : goal.with_first-returns-clause-counts
with_first-returns-clause-counts t c = counts_more (lists_of c.args.rest.now) c.args.d c.as_slice.result.now (c.as_slice.ensures ∙ c.in_ok-behind.ensures.counts) c.args.first.now _ c.in_ok-counts.ensures.all
