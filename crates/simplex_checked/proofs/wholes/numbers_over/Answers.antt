use Rattle.std.proofs.Common.{arith, ap, Err}
use Rattle.simplex_checked.specs.Wholes.{InNumber}
use Rattle.simplex_checked.proofs.wholes.numbers_over.Goals as goal

pub overflow_cast-result : goal.overflow_cast-result
overflow_cast-result c =
    let refused = c.in-Err-Leaves.ensures.leaves _ (ap Err c.in-Err-Leaves.field-0-is) in
    let inside = refused.inside in
    omega (arith, inside, c.requires.few)

pub returns-in-Err-Leaves-clause-fault : goal.returns-in-Err-Leaves-clause-fault
returns-in-Err-Leaves-clause-fault c = InNumber c.args.denominator c.requires.denominator (c.in-Err-Leaves.ensures.leaves _ (ap Err c.in-Err-Leaves.field-0-is))
