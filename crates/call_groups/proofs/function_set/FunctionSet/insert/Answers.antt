use Rattle.std.proofs.Common.{refl, arith}
use Rattle.call_groups.proofs.Sets.{has_with_low, has_with_high}
use Rattle.call_groups.proofs.function_set.FunctionSet.insert.Goals as goal

pub returns-then-fun-lt128 : goal.returns-then-fun-lt128
returns-then-fun-lt128 c = has_with_low c.args.self.now _ c.args.fun (omega arith) refl refl

pub returns-else-fun-lt128 : goal.returns-else-fun-lt128
returns-else-fun-lt128 c = has_with_high c.args.self.now _ c.args.fun (omega arith) c.requires refl refl
