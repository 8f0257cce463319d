use Rattle.std.proofs.Common.{arith, ap, ◌∙◌}
use Rattle.std.specs.Prelude.{unsigned_abs}
use Rattle.std.specs.Int.{w128}
use Rattle.std.proofs.lemmas.Grind.{common_steps}
use Rattle.std.proofs.lemmas.Int.{to_z-of_z}
use Rattle.bound_compare.proofs.text.push_power.Goals as goal

pub returns : goal.returns
returns c = let size = c.unsigned_abs.ensures.value ∙ ap unsigned_abs (to_z-of_z w128 c.args.number c.ranges.number) in grind (arith, common_steps, size)
