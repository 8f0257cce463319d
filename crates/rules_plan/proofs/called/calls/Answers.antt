use Rattle.std.proofs.lemmas.Result.{IfOk-weaker}
use Rattle.raml_syntax.specs.Read.{ty_of}
use Rattle.normal_spec.specs.Norm as n
use Rattle.normal_spec.specs.Read.{parameters_of}
use Rattle.rules_plan.specs.Given.{given_of, made_of, ArePlans}
use Rattle.rules_plan.proofs.Widened.{calls_are}
use Rattle.rules_plan.proofs.called.calls.Goals as goal

pub returns : goal.returns
returns c =
    let G = given_of c.args.env.now in
    let C = parameters_of c.args.context.now in
    IfOk-weaker c.at_budgets.result _ (λ made. ArePlans G (n.Call c.args.nodes c.args.fun.0 c.args.args.now) C (ty_of c.args.ty.now) (made_of made.items))
    (λ made is. calls_are G c.args.nodes C c.args.fun.0 c.args.args.now (ty_of c.args.ty.now) c.in_ok-callee.callee (made_of made.items) is c.in_ok-callee.ensures) c.at_budgets.ensures
