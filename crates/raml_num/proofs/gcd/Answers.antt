use Rattle.std.proofs.Common.{arith}
use Rattle.std.proofs.lemmas.Nat.Gcd.{IsGcd-from_zero, IsGcd-from_mod}
use Rattle.raml_num.proofs.gcd.Goals as goal

pub loop-y-preserved : goal.loop-y-preserved
loop-y-preserved c g h = c.loop-y.invariant g (IsGcd-from_mod _ _ g h)

pub returns : goal.returns
returns c = c.loop-y.invariant _ (IsGcd-from_zero _ _ (omega arith))

pub returns-then-y-le-NARROW : goal.returns-then-y-le-NARROW
returns-then-y-le-NARROW c = rw c.from.ensures (c.loop-y.invariant _ c.gcd_narrow.ensures)
