use Rattle.std.proofs.Common.{◌≡◌, ◌∙◌, ap, map}
use Rattle.std.proofs.lemmas.Result.{IfOk-weaker}
use Rattle.rules_spec.specs.Plan as p
use Rattle.rules_spec.specs.Planned.{zero_alone}
use Rattle.rules_plan.specs.Down.{reached}
use Rattle.rules_plan.specs.Given.{made_of}
use Rattle.rules_plan.proofs.Downed.{map_reached}
use Rattle.rules_plan.proofs.plan.constant.Goals as goal

pub returns : goal.returns
returns c =
    let top = c.args.env.now.top in
    let reach = c.args.env.now.reach in
    IfOk-weaker c.at_zero.result _ (λ made. made_of made.items ≡ reached reach (λ d. p.Ends c.args.nodes 0 zero_alone) top)
    (λ made is. is ∙ ap (map (λ d. p.Ends c.args.nodes 0 zero_alone)) c.in_ok-budgets.ensures ∙ map_reached reach (λ d. p.Ends c.args.nodes 0 zero_alone) (λ d. d) top) c.at_zero.ensures
