use Rattle.std.proofs.Common.{◌<◌, ◌^◌, refl, rules}
use Rattle.call_groups.proofs.Sets.{has_without}
use Rattle.call_groups.proofs.function_set.FunctionSet.difference.Goals as goal

pub returns : goal.returns
returns c =
    let low : c.args.other.now.low < 2 ^ 128 = search rules in
    let high : c.args.other.now.high < 2 ^ 128 = search rules in
    has_without c.args.self.now c.args.other.now _ low high refl refl
