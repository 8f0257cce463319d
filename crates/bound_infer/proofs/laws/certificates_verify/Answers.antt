use Rattle.bound_infer.proofs.Again.{certificates_verify}
use Rattle.bound_infer.proofs.laws.certificates_verify.Goals as goal

pub returns : goal.returns
returns c = certificates_verify c.systems_generate.ensures c.limits_are_told.ensures c.courses_certify.ensures c.courses_stay_within.ensures
    c.none_too_large.ensures c.none_unrefuted.ensures c.held_leaves_alone.ensures
