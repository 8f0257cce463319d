use Rattle.std.proofs.Common.{◌≡◌, ◌++◌, take, drop}
use Rattle.explain_places.specs.Places.{to_newline}
use Rattle.explain_places.proofs.lines.first_end.Given as goal

abbrev pub invariant-loop-byte : goal.invariant-loop-byte
invariant-loop-byte l = record {
  here : l.end ≡ l.byte-index;
  seen : take l.byte-index l.text ++ to_newline (drop l.byte-index l.text) ≡ to_newline l.text;
}
