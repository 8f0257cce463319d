use Rattle.std.proofs.Common.{◌≡◌, ◌++◌, drop, flat_map}
use Rattle.bound_compare.specs.Steps.{led}
use Rattle.bound_compare.proofs.parts.led_by_each.Given as goal

abbrev pub invariant-loop-exponent : goal.invariant-loop-exponent
invariant-loop-exponent l = l.found.items ++ flat_map (led l.powers) (drop l.exponent-index l.firsts) ≡ flat_map (led l.powers) l.firsts
