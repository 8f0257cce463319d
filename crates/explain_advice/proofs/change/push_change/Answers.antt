use Rattle.std.proofs.Common.{rules, refl, inr, [], ◌∷◌}
use Rattle.explain_advice.proofs.change.push_change.Goals as goal

pub returns-in_ok-push-in-Some-2 : goal.returns-in_ok-push-in-Some-2
returns-in_ok-push-in-Some-2 c =
    let action = c.in-Some-2.action in
    rw c.in-Some.is (action ∷ [], inr (action, refl, search rules), search rules)
