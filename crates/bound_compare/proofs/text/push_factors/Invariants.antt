use Rattle.std.proofs.Common.{◌≡◌, ◌+◌, ◌++◌, drop, string_bytes}
use Rattle.bound_compare.specs.Text.{factors_text}
use Rattle.bound_compare.proofs.text.push_factors.Given as goal

abbrev pub invariant-loop-exponent : goal.invariant-loop-exponent
invariant-loop-exponent l =
    (l.parameter ≡ l.exponent-index + 1)
    × (string_bytes l.text ++ factors_text l.parameter (drop l.exponent-index l.exponents) ≡ string_bytes l.fn.text ++ factors_text 1 l.exponents)
