use Rattle.std.proofs.Common.{rules, FitsSigned}
use Rattle.std.proofs.lemmas.Int.{to_z-of_z}
use Rattle.std.specs.Int.{w128}
use Rattle.frac128.proofs.Signs.{no_whole_product}
use Rattle.frac128.proofs.Frac.whole_product.Goals as goal

pub returns-in_err-num : goal.returns-in_err-num
returns-in_err-num c =
    let f : FitsSigned w128 c.args.self.now.num = search rules in
    let g : FitsSigned w128 c.args.other.now.num = search rules in
    let e = simp (to_z-of_z w128 _ f, to_z-of_z w128 _ g) at c.in_err-num.ensures in
    rw c.from_residual.ensures (no_whole_product c.args.self.now c.args.other.now c.requires.first c.requires.second e)
