use Rattle.std.proofs.Common.{◌≡◌}
use Rattle.std.proofs.lemmas.Result.{IfOk-weaker}
use Rattle.base_poly.specs.Read.{context_of}
use Rattle.annot_types.specs.Carried.{to}
use Rattle.rules_spec.specs.Planned.{entries_of}
use Rattle.rules_plan.proofs.Widened.{same_entered}
use Rattle.rules_plan.proofs.operands.same_entries.Goals as goal

pub returns : goal.returns
returns c =
    let Ts = context_of c.args.types.now in
    IfOk-weaker c.identity.result _ (λ found. found.items ≡ entries_of (to (λ t. t)) Ts c.args.d Ts c.args.d)
    (λ found is. same_entered Ts c.args.d c.in_ok-size.size found.items c.in_ok-size.ensures is) c.identity.ensures
