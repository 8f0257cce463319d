use Rattle.std.proofs.Common.{◌≡◌, ◌+◌, ◌≤◌, drop}
use Rattle.explain_places.specs.Places.{is_newline, how_many}
use Rattle.explain_places.proofs.lines.newlines.Given as goal

abbrev pub invariant-loop-byte : goal.invariant-loop-byte
invariant-loop-byte l = record {
  few : l.count ≤ l.byte-index;
  sum : l.count + how_many is_newline (drop l.byte-index l.text) ≡ how_many is_newline l.text;
}
