use Rattle.std.proofs.Common.{◌≤◌, length, arith}
use Rattle.explain_made.proofs.Added.{turned}
use Rattle.explain_made.proofs.Params.{one_led, several_led}
use Rattle.explain_made.proofs.made.push_arguments.Goals as goal

pub returns-in-len1 : goal.returns-in-len1
returns-in-len1 c =
    turned c.push_argument.result (one_led c.args.params.now c.one-item.result _ _ c.in-len1.len_at_least c.in-len1.len_below c.one-item.is) c.push_argument.ensures

pub returns-in_ok-push_argument-in-len1-up : goal.returns-in_ok-push_argument-in-len1-up
returns-in_ok-push_argument-in-len1-up c =
    let some : 2 ≤ length c.args.params.now = omega (arith, c.in-len1-up.len_at_least) in
    turned c.push_more.result
    (several_led c.args.params.now c.first-item.result _ _ _ _ some c.first-item.is c.in_ok-push_str-in-len1-up.ensures.bytes c.in_ok-push_argument-in-len1-up.ensures)
    c.push_more.ensures
