use Rattle.std.proofs.Common.{◌<◌, ◌-◌, ◌∷◌, ◌++◌, [], ap, sym, ◌∙◌, append_assoc, rules}
use Rattle.rules_plan.specs.Down.{down}
use Rattle.rules_plan.proofs.Downed.{down_step}
use Rattle.rules_plan.proofs.budgets.down.Goals as goal

pub loop-d-preserved : goal.loop-d-preserved
loop-d-preserved c =
    let d = c.loop-d.d in
    let found = c.loop-d.found.items in
    let some : 0 < d = search rules in
    ap (λ l. l ++ down (λ d. d) (d - 1)) c.in_ok-push.ensures.items ∙ append_assoc found (d ∷ []) (down (λ d. d) (d - 1)) ∙ ap (λ l. found ++ l) (sym (down_step (λ d. d) d some)) ∙ c.loop-d.invariant
