use Rattle.std.proofs.Common.{◌≡◌, ◌∙◌, ap, sym}
use Rattle.std.proofs.lemmas.Result.{IfOk-weaker}
use Rattle.annot_types.specs.Rows.{size as size_of}
use Rattle.base_poly.specs.Read.{context_of}
use Rattle.normal_spec.specs.Read.{parameters_of}
use Rattle.rules_spec.specs.Planned.{operand_entries}
use Rattle.rules_plan.proofs.Widened.{operands_entered}
use Rattle.rules_plan.proofs.operands.other_entries.Goals as goal

pub returns : goal.returns
returns c =
    let C = parameters_of c.args.context.now in
    IfOk-weaker c.placed.result _ (λ found. found.items ≡ operand_entries C c.args.operands.now (context_of c.args.from.now) c.args.d c.args.d)
    (λ found is. is ∙ operands_entered C c.args.operands.now c.deref.result.now (context_of c.args.from.now) (context_of c.deref-2.result.now) c.args.d c.in_ok-size.size c.deref-4.result.now
    (c.deref.ensures.value ∙ c.in_ok-order.ensures) (ap context_of c.deref-2.ensures.value ∙ c.in_ok-to.ensures) (c.in_ok-size.ensures ∙ ap (λ l. size_of (context_of l) c.args.d) (c.deref-3.ensures.value ∙ sym c.deref-2.ensures.value)) (c.deref-4.ensures.value ∙ c.in_ok-targets.ensures)) c.placed.ensures
