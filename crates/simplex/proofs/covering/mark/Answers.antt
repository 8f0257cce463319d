use Rattle.std.proofs.Common.{arith}
use Rattle.simplex.proofs.Marks.{block_marked, no_place}
use Rattle.simplex.proofs.covering.mark.Goals as goal

pub returns-in-Some : goal.returns-in-Some
returns-in-Some c = rw (c.set.ensures, c.in-Some.ensures.1) (block_marked c.args.blocks c.args.column c.args.block c.args.marks.now)

pub returns-in-None : goal.returns-in-None
returns-in-None c = no_place c.args.blocks c.args.column c.args.block c.args.marks.now (omega (arith, c.in-None.ensures))
