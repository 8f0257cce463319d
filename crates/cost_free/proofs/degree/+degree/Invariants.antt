use Rattle.std.proofs.Common.{◌≡◌, ◌+◌, ◌<◌, ◌^◌, drop}
use Rattle.base_poly.specs.Plain.{many, deg, capped}
use Rattle.base_poly.specs.Read.{plains_of}
use Rattle.cost_free.proofs.degree.+degree.Given as goal

abbrev pub invariant-degree_of_entries-loop-entry : goal.invariant-degree_of_entries-loop-entry
invariant-degree_of_entries-loop-entry l = record {
  low : l.sum < 2 ^ 32;
  done : capped (l.sum + deg (many (plains_of (drop l.entry-index l.entries)))) ≡ capped (deg (many (plains_of l.entries)));
}
