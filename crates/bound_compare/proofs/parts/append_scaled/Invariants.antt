use Rattle.std.proofs.Common.{◌≡◌, ◌++◌}
use Rattle.bound_compare.specs.Steps.{scaled}
use Rattle.bound_compare.proofs.parts.append_scaled.Given as goal

abbrev pub invariant-loop-exponents : goal.invariant-loop-exponents
invariant-loop-exponents l = l.parts.items ≡ l.fn.parts.items ++ scaled l.number l.scale l.yielded
