use Rattle.std.proofs.Common.{ap, ◌∙◌, arith, ◌≡◌, ◌+◌}
use Rattle.explain_sizes.specs.Open.{is_kept}
use Rattle.explain_sizes.specs.Read.{all_open}
use Rattle.explain_sizes.proofs.within.greatest_kept.Goals as goal

pub returns-clause-left : goal.returns-clause-left
returns-clause-left c =
    let seen = c.loop-left.invariant in
    let next : c.loop-left.kept + 1 ≡ c.loop-left.left = omega (arith, seen.apart, c.loop-left-test.false) in
    ap (is_kept c.args.poly.now (all_open c.args.sizes.now) c.args.most) next ∙ seen.left
