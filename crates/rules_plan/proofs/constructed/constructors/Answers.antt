use Rattle.std.proofs.Common.{◌≡◌}
use Rattle.std.proofs.lemmas.Result.{IfOk-weaker}
use Rattle.raml_syntax.specs.Read.{ty_of}
use Rattle.normal_spec.specs.Read.{parameters_of}
use Rattle.rules_spec.specs.Plan as p
use Rattle.rules_spec.specs.Planned.{part_steps}
use Rattle.rules_plan.specs.Down.{reached}
use Rattle.rules_plan.specs.Given.{made_of}
use Rattle.rules_plan.proofs.Widened.{constructors_are}
use Rattle.rules_plan.proofs.constructed.constructors.Goals as goal

pub returns : goal.returns
returns c =
    let a = c.args in
    let C = parameters_of a.context.now in
    let T = ty_of a.ty.now in
    let env = a.env.now in
    IfOk-weaker c.at_budgets.result _ (λ made. made_of made.items ≡ reached env.reach (λ d. p.Ends a.nodes 1 (part_steps C a.operands.now T d)) env.top)
    (λ made is. constructors_are env.reach C a.operands.now T env.top a.nodes c.in_ok-built.built (made_of made.items) is c.in_ok-built.ensures) c.at_budgets.ensures
