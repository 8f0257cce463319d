use Rattle.std.proofs.Common.{◌<◌, ap, ◌∙◌, subst, length, Err, arith}
use Rattle.base_poly.specs.Indices.{index_list}
use Rattle.base_poly.specs.Read.{context_of}
use Rattle.normal_spec.specs.Context.{types}
use Rattle.normal_spec.specs.Read.{parameters_of}
use Rattle.cert_check.proofs.bound.tuples_of.Goals as goal

pub unreachable-requires : goal.unreachable-requires
unreachable-requires c =
    let As = types (parameters_of c.args.params.now) in
    let is = ap context_of c.deref.ensures.value ∙ c.in_ok-types.ensures in
    let many : 2000 < length (index_list As c.args.degree) = subst (λ As. 2000 < length (index_list As c.args.degree)) is (c.in-Err-TooMany.ensures.many (ap Err c.in-Err-TooMany.field-0-is)) in
    let few = c.requires in
    absurd (omega (arith, few, many))
