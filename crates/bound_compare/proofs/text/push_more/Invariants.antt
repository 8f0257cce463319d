use Rattle.std.proofs.Common.{◌≡◌, ◌++◌, drop, string_bytes}
use Rattle.bound_compare.specs.Text.{more_powers}
use Rattle.bound_compare.proofs.text.push_more.Given as goal

abbrev pub invariant-loop-exponents : goal.invariant-loop-exponents
invariant-loop-exponents l = string_bytes l.text ++ more_powers l.den (drop l.exponents-index l.terms) ≡ string_bytes l.fn.text ++ more_powers l.den l.terms
