use Rattle.std.proofs.Common.{◌≡◌, ◌≤◌, ◌*◌, ℕ, drop}
use Rattle.base_poly.specs.Plain.{many, deg}
use Rattle.base_poly.specs.Read.{plains_of}
use Rattle.explain_sizes.specs.Counts.{each_counts}
use Rattle.explain_sizes.specs.Read.{sizes_of}
use Rattle.explain_sizes.specs.Shares.{IsProper, Holds}
use Rattle.explain_sizes.proofs.counted.+counted.Given as goal

abbrev pub invariant-each_counted-loop-entry : goal.invariant-each_counted-loop-entry
invariant-each_counted-loop-entry l = record {
  low : deg (many (plains_of (drop l.entry-index l.entries))) ≤ 4;
  proper : IsProper l.den l.share;
  holds : (n : ℕ) → Holds l.den n l.fn.start →
      (m : ℕ) × Holds l.den m l.share × (m * each_counts (many (plains_of (drop l.entry-index l.entries))) (sizes_of l.each) ≡ n * each_counts (many (plains_of l.entries)) (sizes_of l.each));
}
