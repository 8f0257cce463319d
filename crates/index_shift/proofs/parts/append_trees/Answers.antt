use Rattle.std.proofs.Common.{◌≡◌, ◌+◌, ◌-◌, ◌<◌, length, take, ap, ◌∙◌, arith}
use Rattle.base_poly.specs.Read.{index_of, plains_of}
use Rattle.index_shift.proofs.Cuts.{trees_of, trees_step, trees_done}
use Rattle.index_shift.proofs.Listed.{to_end}
use Rattle.index_shift.proofs.parts.append_trees.Goals as goal

pub loop-cut-preserved : goal.loop-cut-preserved
loop-cut-preserved c =
    let len = length c.args.entries.now in
    let k = c.loop-cut.cut in
    let before : 0 < len + 1 - k = omega (arith, c.loop-cut-test.true) in
    let next : len + 1 - (k + 1) ≡ len + 1 - k - 1 = omega arith in
    let made = c.in_ok-with_trees.ensures ∙ ap (λ is. trees_of (index_of c.args.element.now) (plains_of (take k c.args.entries.now), plains_of is)) (to_end k c.args.entries.now) in
    trees_step (index_of c.args.element.now) c.args.entries.now (len + 1 - k) (len + 1 - (k + 1)) k _ _ _ _ before next made c.in_ok-push.ensures.items c.loop-cut.invariant

pub returns : goal.returns
returns c =
    let len = length c.args.entries.now in
    let none : len + 1 - c.loop-cut.cut ≡ 0 = omega (arith, c.loop-cut-test.false) in
    trees_done (index_of c.args.element.now) c.args.entries.now (len + 1 - c.loop-cut.cut) c.loop-cut.cut _ _ none c.loop-cut.invariant
