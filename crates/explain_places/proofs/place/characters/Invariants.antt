use Rattle.std.proofs.Common.{◌≡◌, ◌+◌, ◌≤◌, drop}
use Rattle.explain_places.specs.Places.{begins_character, how_many}
use Rattle.explain_places.proofs.place.characters.Given as goal

abbrev pub invariant-loop-byte : goal.invariant-loop-byte
invariant-loop-byte l = record {
  few : l.count ≤ l.byte-index;
  sum : l.count + how_many begins_character (drop l.byte-index l.text) ≡ how_many begins_character l.text;
}
