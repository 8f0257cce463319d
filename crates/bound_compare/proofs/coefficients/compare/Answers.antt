use Rattle.std.proofs.Common.{subst, sym}
use Rattle.bound_compare.specs.Compare.{sum_of, Stands}
use Rattle.bound_compare.proofs.Decided.{stands, found}
use Rattle.bound_compare.proofs.coefficients.compare.Goals as goal

pub returns : goal.returns
returns c =
    let first = c.args.first.now in
    let second = c.args.second.now in
    let is = subst (λ r. Stands r (sum_of first) (sum_of second)) (sym c.relation_of.ensures)
    (stands (sum_of first) (sum_of second) c.is_at_most-at_most.result c.is_at_most-at_least.result c.is_at_most-at_most.ensures c.is_at_most-at_least.ensures) in
    record { stands = is; found = found first second c.relation_of.result c.requires.first c.requires.second is }
