use Rattle.std.proofs.Common.{◌<◌, ◌^◌, rules, sym, ap, ◌∙◌, arith}
use Rattle.std.specs.Prelude.{FitsSigned, unsigned_abs}
use Rattle.std.specs.Int.{int_wrap, w64}
use Rattle.std.proofs.lemmas.Int.{wrapping_add_is, wrapping_sub_is, to_z-of_z, ints}
use Rattle.raml_syntax.specs.Eval.{arith_result}
use Rattle.metered_vm.proofs.Arithmetic.{wrapping_div_is}
use Rattle.metered_vm.proofs.acts.result_of.Goals as goal

pub returns-in-Add : goal.returns-in-Add
returns-in-Add c = wrapping_add_is w64 c.args.left c.args.right c.ranges.left c.ranges.right ∙ ap (λ o. int_wrap w64 (arith_result o c.args.left c.args.right)) (sym c.in-Add.is)

pub returns-in-Sub : goal.returns-in-Sub
returns-in-Sub c = wrapping_sub_is w64 c.args.left c.args.right c.ranges.left c.ranges.right ∙ ap (λ o. int_wrap w64 (arith_result o c.args.left c.args.right)) (sym c.in-Sub.is)

pub returns-in_default : goal.returns-in_default
returns-in_default c =
    let fits : FitsSigned w64 c.wrapping_div.result = search rules in
    let small : unsigned_abs c.args.left < 2 ^ 64 = omega (arith, ints, c.ranges.left.sfits) in
    let is = simp (to_z-of_z w64 _ c.ranges.left, to_z-of_z w64 _ c.ranges.right) at c.wrapping_div.ensures in
    to_z-of_z w64 _ fits ∙ is ∙ wrapping_div_is c.args.left c.args.right small ∙ ap (λ o. int_wrap w64 (arith_result o c.args.left c.args.right)) (sym c.in-Div.is)
