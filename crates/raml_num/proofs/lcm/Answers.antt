use Rattle.raml_num.proofs.Dividing.{positive_gcd}
use Rattle.raml_num.proofs.Multiples.{is_told}
use Rattle.raml_num.proofs.lcm.Goals as goal

pub nonzero_div-part : goal.nonzero_div-part
nonzero_div-part c = positive_gcd _ _ _ c.requires.b_is_positive c.gcd.ensures

pub returns : goal.returns
returns c = is_told _ _ _ _ c.requires.b_is_positive c.gcd.ensures c.checked_mul.ensures
