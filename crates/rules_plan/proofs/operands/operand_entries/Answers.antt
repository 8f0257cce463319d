use Rattle.std.proofs.Common.{◌≡◌}
use Rattle.std.proofs.lemmas.Result.{IfOk-weaker}
use Rattle.base_poly.specs.Read.{context_of}
use Rattle.normal_spec.specs.Read.{parameters_of}
use Rattle.rules_spec.specs.Planned.{operand_entries}
use Rattle.rules_plan.proofs.Ordered.{ordered_entered}
use Rattle.rules_plan.proofs.operands.operand_entries.Goals as goal

pub returns-then-in_order : goal.returns-then-in_order
returns-then-in_order c =
    let C = parameters_of c.args.context.now in
    let As = context_of c.args.from.now in
    IfOk-weaker c.same_entries.result _ (λ found. found.items ≡ operand_entries C c.args.operands.now As c.args.d c.args.d)
    (λ found is. ordered_entered C c.args.operands.now As c.args.d found.items (c.in_order.ensures c.if-in_order.true) is) c.same_entries.ensures
