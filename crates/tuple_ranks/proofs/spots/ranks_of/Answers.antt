use Rattle.std.proofs.Common.{ap, ◌∙◌, subst}
use Rattle.tuple_ranks.specs.Read.{lists_of}
use Rattle.tuple_ranks.specs.Spots.{AreLarge}
use Rattle.tuple_ranks.proofs.spots.ranks_of.Goals as goal

pub returns-clause-many : goal.returns-clause-many
returns-clause-many c = λ e. subst (λ pss. AreLarge pss c.args.d) (ap lists_of c.as_slice.ensures ∙ c.in_ok-sizes.ensures) (c.new.ensures.many e)
