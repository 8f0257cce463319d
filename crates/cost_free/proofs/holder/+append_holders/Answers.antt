use Rattle.base_poly.proofs.Height.{pair_of_parts}
use Rattle.cost_free.proofs.Components.{two_parts, two_places}
use Rattle.cost_free.proofs.holder.+append_holders.Goals as goal

pub returns-in_ok-append_holders-in-Pair-2-clause-all : goal.returns-in_ok-append_holders-in-Pair-2-clause-all
returns-in_ok-append_holders-in-Pair-2-clause-all t c =
    two_parts _ _ _ _ _ _ _ _ c.in_ok-append_holders-in-Pair.ensures.all c.in_ok-append_holders-in-Pair-2.ensures.all c.in_ok-append_holders-in-Pair.ensures.behind
    (pair_of_parts _ _ _ _ _ c.in-Pair.is c.deref.ensures c.deref-in-Pair.ensures)

pub returns-in_ok-append_holders-in-Pair-2-clause-behind : goal.returns-in_ok-append_holders-in-Pair-2-clause-behind
returns-in_ok-append_holders-in-Pair-2-clause-behind t c =
    two_places _ _ _ _ _ _ c.in_ok-append_holders-in-Pair.ensures.behind c.in_ok-append_holders-in-Pair-2.ensures.behind
    (pair_of_parts _ _ _ _ _ c.in-Pair.is c.deref.ensures c.deref-in-Pair.ensures)
