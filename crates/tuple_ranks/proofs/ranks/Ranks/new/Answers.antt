use Rattle.std.proofs.Common.{◌∙◌, Err, ap}
use Rattle.tuple_ranks.specs.Read.{lists_of}
use Rattle.tuple_ranks.proofs.Made.{of_fault, starts_are, is_small, is_large}
use Rattle.tuple_ranks.proofs.ranks.Ranks.new.Goals as goal

pub returns-in_err-starts-clause-many : goal.returns-in_err-starts-clause-many
returns-in_err-starts-clause-many c = λ e.
    let past = c.in_err-starts.ensures.many (ap Err (of_fault _ _ c.from_residual-in_err-starts.ensures.1 e)) in
    is_large (lists_of c.args.sizes.now) c.args.d c.as_slice.result.now (c.as_slice.ensures ∙ c.in_ok-made.ensures.counts) past

pub returns-clause-is : goal.returns-clause-is
returns-clause-is c =
    let starts = c.in_ok-starts.ensures.starts ∙ starts_are (lists_of c.args.sizes.now) c.args.d c.as_slice.result.now (c.as_slice.ensures ∙ c.in_ok-made.ensures.counts) in
    λ i. record { degree = c.args.d; columns = c.in_ok-made.ensures.columns i; starts = starts i }

pub returns-clause-few : goal.returns-clause-few
returns-clause-few c = is_small (lists_of c.args.sizes.now) c.args.d c.as_slice.result.now (c.as_slice.ensures ∙ c.in_ok-made.ensures.counts) c.in_ok-starts.ensures.few
