use Rattle.std.proofs.Common.{◌∙◌, subst, sym}
use Rattle.linear_rows.specs.Systems.{Refutes}
use Rattle.simplex_checked.proofs.Taking.{refutes_over}
use Rattle.simplex_checked.proofs.checked.checked_vector.Goals as goal

pub check_vector-requires : goal.check_vector-requires
check_vector-requires c =
    subst (Refutes c.args.system.now) (sym (c.deref.ensures.value ∙ c.in_ok-numbers.ensures.numbers))
    (refutes_over c.args.system.now c.args.y.now c.requires.refuting c.least_denominators.ensures c.in_ok-denominator.denominator c.in_ok-numbers.ensures.taken)
