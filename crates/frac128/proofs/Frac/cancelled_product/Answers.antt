use Rattle.std.proofs.Common.{rules, FitsSigned}
use Rattle.std.proofs.lemmas.Int.{to_z-of_z}
use Rattle.std.specs.Int.{w128}
use Rattle.frac128.proofs.Signs.{no_product}
use Rattle.frac128.proofs.Frac.cancelled_product.Goals as goal

pub returns-in_err-top : goal.returns-in_err-top
returns-in_err-top c =
    let f : FitsSigned w128 c.args.self.now.num = search rules in
    let g : FitsSigned w128 c.args.other.now.num = search rules in
    let e = simp (c.unsigned_abs.ensures.value, c.unsigned_abs-2.ensures.value, to_z-of_z w128 _ f, to_z-of_z w128 _ g) at c.in_err-top.ensures in
    rw c.from_residual.ensures (no_product c.args.self.now c.args.other.now e)
