use Rattle.std.proofs.Common.{refl}
use Rattle.raml_num.proofs.Dividing.{positive_gcd}
use Rattle.frac128.proofs.Cancelling.{crossed_by, none_fits, these_fit}
use Rattle.frac128.proofs.parts.cancelled.Goals as goal

pub quotient-requires : goal.quotient-requires
quotient-requires c = positive_gcd _ _ _ c.requires.second.positive c.gcd-g.ensures

pub quotient-requires-2 : goal.quotient-requires-2
quotient-requires-2 c = positive_gcd _ _ _ c.requires.first.positive c.gcd-h.ensures

pub quotient-requires-3 : goal.quotient-requires-3
quotient-requires-3 c = positive_gcd _ _ _ c.requires.first.positive c.gcd-h.ensures

pub quotient-requires-4 : goal.quotient-requires-4
quotient-requires-4 c = positive_gcd _ _ _ c.requires.second.positive c.gcd-g.ensures

pub returns-in_err-top : goal.returns-in_err-top
returns-in_err-top c =
    let k = crossed_by _ _ _ _ _ _ _ _ _ _ c.requires.first c.requires.second c.gcd-g.ensures c.gcd-h.ensures c.quotient.ensures c.quotient-2.ensures refl refl in
    rw c.from_residual.ensures (none_fits _ _ _ _ _ _ c.requires.first.positive c.requires.second.positive k (λ f g. c.in_err-top.ensures f))

pub returns-in_err-bottom : goal.returns-in_err-bottom
returns-in_err-bottom c =
    let k = crossed_by _ _ _ _ _ _ _ _ _ _ c.requires.first c.requires.second c.gcd-g.ensures c.gcd-h.ensures c.quotient.ensures c.quotient-2.ensures c.quotient-3.ensures c.quotient-4.ensures in
    rw c.from_residual-in_err-bottom.ensures (none_fits _ _ _ _ _ _ c.requires.first.positive c.requires.second.positive k (λ f g. c.in_err-bottom.ensures g))

pub returns : goal.returns
returns c =
    let k = crossed_by _ _ _ _ _ _ _ _ _ _ c.requires.first c.requires.second c.gcd-g.ensures c.gcd-h.ensures c.quotient.ensures c.quotient-2.ensures c.quotient-3.ensures c.quotient-4.ensures in
    these_fit _ _ _ _ _ _ _ _ k c.in_ok-top.ensures.0 c.in_ok-bottom.ensures.0 c.in_ok-top.ensures.1 c.in_ok-bottom.ensures.1
