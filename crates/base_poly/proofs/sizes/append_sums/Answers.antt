use Rattle.std.proofs.Common.{◌+◌, ◌≤◌, get_or, arith}
use Rattle.std.proofs.lemmas.Grind.{common_steps}
use Rattle.base_poly.proofs.Sized.{one_within}
use Rattle.base_poly.proofs.sizes.append_sums.Goals as goal

pub returns-in_err-append_within-clause-many : goal.returns-in_err-append_within-clause-many
returns-in_err-append_within-clause-many c =
    let k = c.loop-other.other-index in
    let low : c.args.first + get_or c.args.others.now k 0 ≤ c.args.d = omega (arith, c.if-sum-from.true, c.from.ensures, c.from-in-loop-other.ensures) in
    let part = one_within c.args.first c.args.d c.args.others.now k c.loop-other.found.items c.args.found.now.items c.loop-other-test.true low c.loop-other.invariant.done in
    grind (arith, common_steps, part)
