use Rattle.std.proofs.Common.{arith}
use Rattle.std.proofs.lemmas.Grind.{common_steps}
use Rattle.base_poly.proofs.Sized.{all_within}
use Rattle.base_poly.proofs.sizes.append_all.Goals as goal

pub returns-in_err-append_sums-clause-many : goal.returns-in_err-append_sums-clause-many
returns-in_err-append_sums-clause-many c =
    let part = all_within c.args.more c.args.d c.args.firsts.now c.args.others.now c.loop-first.first-index c.from.result c.loop-first.found.items c.args.found.now.items c.loop-first-test.true c.from.ensures c.loop-first.invariant.done in
    grind (arith, common_steps, part)
