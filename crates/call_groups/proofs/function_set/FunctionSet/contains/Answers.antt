use Rattle.std.proofs.Common.{arith}
use Rattle.call_groups.proofs.Sets.{reads_low, reads_high, reads_past}
use Rattle.call_groups.proofs.function_set.FunctionSet.contains.Goals as goal

pub returns-then-fun-lt128 : goal.returns-then-fun-lt128
returns-then-fun-lt128 c = reads_low c.args.self.now c.args.fun (omega arith)

pub returns-then-fun-lt256 : goal.returns-then-fun-lt256
returns-then-fun-lt256 c = reads_high c.args.self.now c.args.fun (omega arith) (omega arith)

pub returns-else-fun-lt256 : goal.returns-else-fun-lt256
returns-else-fun-lt256 c = reads_past c.args.self.now c.args.fun (omega arith)
