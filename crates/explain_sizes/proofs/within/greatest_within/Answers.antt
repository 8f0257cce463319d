use Rattle.std.proofs.Common.{sym, ◌∙◌, arith}
use Rattle.explain_sizes.specs.Read.{all_open}
use Rattle.explain_sizes.proofs.Keeping.{kept_below, left_above, kept_up_to, some_den}
use Rattle.explain_sizes.proofs.within.greatest_within.Goals as goal

pub returns-then-branch : goal.returns-then-branch
returns-then-branch c = λ n h.
    kept_below c.args.poly.now (some_den _ c.requires.poly) (all_open c.args.sizes.now) c.args.most n 9999999999 (omega (arith, h)) (sym c.in_ok-is_kept.ensures ∙ c.if-branch.true)

pub returns-in_ok-greatest_kept : goal.returns-in_ok-greatest_kept
returns-in_ok-greatest_kept c =
    let found = c.in_ok-greatest_kept.ensures in
    (found.below, kept_up_to c.args.poly.now (some_den _ c.requires.poly) (all_open c.args.sizes.now) c.args.most _ found.kept found.left)

pub returns-else-branch-2 : goal.returns-else-branch-2
returns-else-branch-2 c = λ n.
    left_above c.args.poly.now (some_den _ c.requires.poly) (all_open c.args.sizes.now) c.args.most 0 n (omega arith) (sym c.in_ok-is_kept-2.ensures ∙ c.if-branch-2.false)
