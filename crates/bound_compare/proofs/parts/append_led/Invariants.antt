use Rattle.std.proofs.Common.{◌≡◌, ◌++◌, drop}
use Rattle.bound_compare.specs.Steps.{led}
use Rattle.bound_compare.proofs.parts.append_led.Given as goal

abbrev pub invariant-loop-exponents : goal.invariant-loop-exponents
invariant-loop-exponents l = l.found.items ++ led (drop l.exponents-index l.powers) (l.exponent, l.factor) ≡ l.fn.found.items ++ led l.powers (l.exponent, l.factor)
