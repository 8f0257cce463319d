use Rattle.std.proofs.Common.{◌≡◌, rules}
use Rattle.other_blocks.proofs.Raised.{known_once}
use Rattle.other_blocks.proofs.check.raise_meter.Goals as goal

pub returns-else-times-ne1-clause-knows : goal.returns-else-times-ne1-clause-knows
returns-else-times-ne1-clause-knows c P degree blocks h =
    let once : c.args.times ≡ 1 = search rules in
    known_once P degree c.args.meter blocks c.args.times once c.args.earlier.now h
