use Rattle.std.proofs.Common.{◌∙◌, ap, refl}
use Rattle.raml_syntax.specs.Read.{ty_of}
use Rattle.base_poly.specs.Read.{context_of}
use Rattle.normal_spec.specs.Context.{types}
use Rattle.normal_spec.specs.Read.{parameters_of}
use Rattle.annot_types.specs.Rows.{size as size_of}
use Rattle.rules_plan.specs.Given.{given_of, made_of}
use Rattle.rules_plan.proofs.Grouped.{some_is}
use Rattle.rules_plan.proofs.body.with_plan.Goals as goal

pub returns : goal.returns
returns c =
    let a = c.args in
    let top = a.env.now.top in
    some_is (given_of a.env.now) a.ty.now a.function.now _ (parameters_of c.deref.result.now) (ty_of a.ty.now) (made_of c.in_ok-made.made.items) (ap parameters_of c.deref.ensures.value) refl c.in_ok-made.ensures c.in_ok-plan.ensures
    (c.in_ok-args.ensures ∙ ap (λ l. size_of (types (parameters_of l)) top) c.deref-2.ensures.value)
    (c.in_ok-result.ensures ∙ ap (λ l. size_of (context_of l) top) c.from_ref.ensures.value)
