use Rattle.std.proofs.Common.{◌≡◌, ◌≤◌, ◌*◌, take}
use Rattle.std.specs.Prelude.{sum}
use Rattle.bound_compare.proofs.exponents.Exponents.sum.Given as goal

abbrev pub invariant-loop-exponent : goal.invariant-loop-exponent
invariant-loop-exponent l = (l.sum ≡ sum (take l.exponent-index l.exponent-items)) × (l.sum ≤ 255 * l.exponent-index)
