use Rattle.std.proofs.Common.{Err, ap, ◌∙◌, subst}
use Rattle.tuple_ranks.specs.Read.{lists_of}
use Rattle.tuple_ranks.specs.Spots.{AreLarge}
use Rattle.tuple_ranks.proofs.Made.{of_fault}
use Rattle.tuple_ranks.proofs.spots.Half.new.Goals as goal

pub returns-in_err-ranks-clause-many : goal.returns-in_err-ranks-clause-many
returns-in_err-ranks-clause-many c = λ e.
    subst (λ pss. AreLarge pss c.args.d) (ap lists_of c.as_slice.ensures ∙ c.in_ok-kept.ensures) (c.in_err-ranks.ensures.many (ap Err (of_fault _ _ c.from_residual-in_err-ranks.ensures.1 e)))
