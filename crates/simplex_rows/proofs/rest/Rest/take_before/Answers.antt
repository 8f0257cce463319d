use Rattle.simplex_rows.proofs.Fronts.{ends_before, starts_at}
use Rattle.simplex_rows.proofs.rest.Rest.take_before.Goals as goal

pub returns-clause-before : goal.returns-clause-before
returns-clause-before c = rw c.split_at.ensures.front (ends_before c.args.column c.count_before-count.result _ c.count_before-count.ensures.before)

pub returns-clause-from : goal.returns-clause-from
returns-clause-from c = rw c.split_at.ensures.back (starts_at c.args.column c.count_before-count.result _ c.count_before-count.ensures.next)
