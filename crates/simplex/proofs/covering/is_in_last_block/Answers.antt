use Rattle.std.proofs.Common.{arith}
use Rattle.std.proofs.lemmas.Bool.Decides.{nat_tests}
use Rattle.simplex.proofs.Marks.{same_as_last}
use Rattle.simplex.proofs.covering.is_in_last_block.Goals as goal

pub returns-then-k-gt0 : goal.returns-then-k-gt0
returns-then-k-gt0 c t = same_as_last c.args.rows.now c.args.k (omega arith) c.requires (grind (arith, nat_tests, t))
