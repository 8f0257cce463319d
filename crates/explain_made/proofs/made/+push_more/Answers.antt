use Rattle.std.specs.Prelude.{codes}
use Rattle.explain_made.proofs.Added.{at_last, turned}
use Rattle.explain_made.proofs.Params.{more_ended, more_led}
use Rattle.explain_made.proofs.made.+push_more.Goals as goal

pub returns-in-empty : goal.returns-in-empty
returns-in-empty t c = at_last c.push_str.result _ _ (codes ")") c.push_str.ensures.bytes (more_ended c.args.params.now _ _ c.in-empty.len_below)

pub returns-in_ok-push_argument-in-len1-up : goal.returns-in_ok-push_argument-in-len1-up
returns-in_ok-push_argument-in-len1-up t c =
    turned c.push_more.result
    (more_led c.args.params.now c.first-item.result _ _ _ _ c.in-len1-up.len_at_least c.first-item.is c.in_ok-push_str-in-len1-up.ensures.bytes c.in_ok-push_argument-in-len1-up.ensures)
    c.push_more.ensures
