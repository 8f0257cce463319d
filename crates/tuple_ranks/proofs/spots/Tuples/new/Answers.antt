use Rattle.std.proofs.Common.{◌∙◌}
use Rattle.tuple_ranks.specs.Read.{lists_of}
use Rattle.tuple_ranks.proofs.Rows.{rows_of}
use Rattle.tuple_ranks.proofs.spots.Tuples.new.Goals as goal

pub returns-clause-numbers : goal.returns-clause-numbers
returns-clause-numbers c = c.in_ok-numbers.ensures ∙ rows_of _ (lists_of c.args.sizes.now) c.args.d c.in_ok-ranks.ensures.is
