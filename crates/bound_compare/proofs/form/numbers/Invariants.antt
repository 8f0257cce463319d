use Rattle.std.proofs.Common.{◌≡◌, ◌++◌, drop}
use Rattle.bound_compare.specs.Steps.{numbers, AreSmall, HasLarge}
use Rattle.bound_compare.proofs.form.numbers.Given as goal

abbrev pub invariant-loop-exponents : goal.invariant-loop-exponents
invariant-loop-exponents l = record {
  numbers : l.found.items ++ numbers (drop l.exponents-index l.sums) ≡ numbers l.sums;
  small : AreSmall (drop l.exponents-index l.sums) → AreSmall l.sums;
  large : HasLarge (drop l.exponents-index l.sums) → HasLarge l.sums;
}
