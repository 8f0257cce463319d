use Rattle.std.proofs.Common.{◌≡◌, ◌≤◌, ◌<◌, ◌+◌, ◌++◌, ◌^◌, drop}
use Rattle.base_poly.specs.Plain.{many, degrees}
use Rattle.base_poly.specs.Read.{plains_of}
use Rattle.explain_nested.specs.Reading.{names_in, entries_reading}
use Rattle.explain_nested.specs.Read.{pieces_of}
use Rattle.explain_nested.proofs.reading.+reading.Given as goal

abbrev pub invariant-append_entries-loop-entry : goal.invariant-append_entries-loop-entry
invariant-append_entries-loop-entry l = record {
  low : degrees (plains_of (drop l.entry-index l.entries)) ≤ 4;
  few : l.after + degrees (plains_of (drop l.entry-index l.entries)) < 2 ^ 64;
  low_after : l.after + degrees (plains_of (drop l.entry-index l.entries)) ≤ l.next + degrees (plains_of l.entries);
  number : l.number ≡ l.first + l.entry-index;
  pieces : pieces_of l.pieces.items ++ entries_reading (many (plains_of (drop l.entry-index l.entries))) l.number l.after
      ≡ pieces_of l.fn.pieces.items ++ entries_reading (many (plains_of l.entries)) l.first l.next;
  next : l.after + names_in (entries_reading (many (plains_of (drop l.entry-index l.entries))) l.number l.after)
      ≡ l.next + names_in (entries_reading (many (plains_of l.entries)) l.first l.next);
}
