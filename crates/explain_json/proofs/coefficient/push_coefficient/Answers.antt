use Rattle.std.proofs.Common.{arith}
use Rattle.std.proofs.lemmas.Grind.{common_steps}
use Rattle.poly_text.proofs.Divide.{coefficient_whole, coefficient_parts}
use Rattle.explain_json.proofs.coefficient.push_coefficient.Goals as goal

pub returns-in_ok-push_number-2 : goal.returns-in_ok-push_number-2
returns-in_ok-push_number-2 c = let same = coefficient_parts c.args.number c.args.den c.gcd-common.result c.gcd-common.ensures c.if-below-ne1.true in grind (arith, common_steps, same)

pub returns-else-below-ne1 : goal.returns-else-below-ne1
returns-else-below-ne1 c = let same = coefficient_whole c.args.number c.args.den c.gcd-common.result c.gcd-common.ensures c.if-below-ne1.false in grind (arith, common_steps, same)
