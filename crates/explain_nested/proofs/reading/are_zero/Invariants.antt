use Rattle.std.proofs.Common.{◌≡◌, ◌≤◌, drop}
use Rattle.base_poly.specs.Plain.{many, deg}
use Rattle.base_poly.specs.Read.{plains_of}
use Rattle.explain_nested.specs.Reading.{are_zero}
use Rattle.explain_nested.proofs.reading.are_zero.Given as goal

abbrev pub invariant-loop-entry : goal.invariant-loop-entry
invariant-loop-entry l = record {
  low : deg (many (plains_of (drop l.entry-index l.entries))) ≤ 4;
  same : are_zero (many (plains_of (drop l.entry-index l.entries))) ≡ are_zero (many (plains_of l.entries));
}
