use Rattle.std.proofs.Common.{◌≡◌, ◌++◌, drop, string_bytes}
use Rattle.explain_algebra.specs.Algebra.{factors, times}
use Rattle.explain_algebra.specs.Steps.{marked, still}
use Rattle.explain_algebra.proofs.algebra.push_factors.Given as goal

abbrev pub invariant-loop-exponent : goal.invariant-loop-exponent
invariant-loop-exponent l = record {
  place : l.place ≡ l.exponent-index;
  text : string_bytes l.text ++ marked l.first times (factors l.names l.place (drop l.exponent-index l.exponents)) ≡ string_bytes l.fn.text ++ marked l.is_first times (factors l.names 0 l.exponents);
  first : still l.first (factors l.names l.place (drop l.exponent-index l.exponents)) ≡ still l.is_first (factors l.names 0 l.exponents);
}
