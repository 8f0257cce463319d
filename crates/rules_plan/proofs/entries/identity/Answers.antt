use Rattle.std.proofs.Common.{◌∷◌, [], ◌++◌, ap, ◌∙◌}
use Rattle.rules_plan.proofs.Entered.{identity_step}
use Rattle.rules_plan.proofs.entries.identity.Goals as goal

pub loop-k-preserved : goal.loop-k-preserved
loop-k-preserved c = identity_step _ _ _ c.loop-k.k c.args.size c.loop-k-test.true (c.in_ok-push.ensures.items ∙ ap (λ e. c.loop-k.found.items ++ e ∷ []) c.in_ok-entry.ensures) c.loop-k.invariant
