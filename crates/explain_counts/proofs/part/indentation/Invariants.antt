use Rattle.std.proofs.Common.{◌≡◌, ◌+◌, ◌≤◌, drop}
use Rattle.explain_counts.specs.Parts.{indentation}
use Rattle.explain_counts.proofs.part.indentation.Given as goal

abbrev pub invariant-loop-byte : goal.invariant-loop-byte
invariant-loop-byte l = record {
  few : l.count ≤ l.byte-index;
  sum : l.count + indentation (drop l.byte-index l.line) ≡ indentation l.line;
}
