use Rattle.std.proofs.Common.{rules, FitsSigned}
use Rattle.std.proofs.lemmas.Int.{to_z-of_z}
use Rattle.std.specs.Int.{w128}
use Rattle.frac128.proofs.Sums.{same_sum}
use Rattle.frac128.proofs.Frac.sum_over_same.Goals as goal

pub returns-clause-value : goal.returns-clause-value
returns-clause-value c =
    let f : FitsSigned w128 c.args.self.now.num = search rules in
    let g : FitsSigned w128 c.args.other.now.num = search rules in
    let k : FitsSigned w128 c.in_ok-num.num = search rules in
    let n = simp (to_z-of_z w128 _ f, to_z-of_z w128 _ g) at c.in_ok-num.ensures in
    rw (← c.requires) (same_sum c.args.self.now.num c.args.self.now.den c.args.other.now.num c.reduced.result.num c.reduced.result.den
    (simp n.1 at (simp (to_z-of_z w128 _ k) at c.reduced.ensures)))
