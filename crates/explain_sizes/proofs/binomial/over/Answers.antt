use Rattle.raml_num.proofs.Dividing.{positive_gcd, positive_part}
use Rattle.explain_sizes.proofs.Binomials.{quotient_is}
use Rattle.explain_sizes.proofs.binomial.over.Goals as goal

pub nonzero_div-result : goal.nonzero_div-result
nonzero_div-result c = positive_gcd _ _ _ c.requires c.gcd-common.ensures

pub nonzero_div-result-2 : goal.nonzero_div-result-2
nonzero_div-result-2 c = positive_gcd _ _ _ c.requires c.gcd-common.ensures

pub nonzero_div-result-3 : goal.nonzero_div-result-3
nonzero_div-result-3 c = positive_part _ _ c.requires c.gcd-common.ensures.1

pub returns : goal.returns
returns c = λ q e. quotient_is _ _ _ _ q c.requires c.gcd-common.ensures e
