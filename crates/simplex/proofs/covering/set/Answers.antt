use Rattle.std.proofs.Common.{arith}
use Rattle.simplex.proofs.Marks.{set_past}
use Rattle.simplex.proofs.covering.set.Goals as goal

pub returns-else-place-marks : goal.returns-else-place-marks
returns-else-place-marks c = set_past c.args.marks.now c.args.place (omega (arith, c.if-place-marks.false))
