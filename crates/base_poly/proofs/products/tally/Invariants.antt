use Rattle.std.proofs.Common.{◌≡◌, drop, fold}
use Rattle.base_poly.specs.Count.{counts_of, count_one, tallied}
use Rattle.base_poly.specs.Read.{plains_of}
use Rattle.base_poly.proofs.Counted.{numbers}
use Rattle.base_poly.proofs.products.tally.Given as goal

abbrev pub invariant-loop-term : goal.invariant-loop-term
invariant-loop-term l = record {
  counted : fold count_one (counts_of l.found.entries) (plains_of (drop l.term-index l.terms)) ≡ tallied (plains_of l.terms);
  numbers : numbers (counts_of l.found.entries) ≡ l.term-index;
}
