use Rattle.std.proofs.Common.{sym, ap, ◌∙◌, arith}
use Rattle.raml_syntax.specs.Read.{ty_of}
use Rattle.normal_spec.specs.Context.{types}
use Rattle.normal_spec.specs.Read.{norm_of, parameters_of}
use Rattle.rules_plan.specs.Flat.{all_holders}
use Rattle.rules_plan.proofs.Flatness.{flat_within}
use Rattle.rules_plan.proofs.small.is_small.Goals as goal

pub returns-then-holders-room : goal.returns-then-holders-room
returns-then-holders-room c = λ yes.
    let function = c.args.function.now in
    let room = c.room-room.result in
    let held = c.in-Some.ensures.0 ∙ ap (λ ps. all_holders (types (parameters_of ps))) c.deref.ensures.value in
    let low = c.if-held-room.true in
    flat_within c.args.d room c.room-room.ensures.ten c.room-room.ensures.few (norm_of function.body) (parameters_of function.params.items) (ty_of c.args.ty.now) _
    (sym c.is_flat.ensures ∙ yes) (omega (arith, held, low)) (omega (arith, c.if-holders-room.true, c.holders.ensures))
