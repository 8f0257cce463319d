use Rattle.std.proofs.Common.{◌≡◌, drop}
use Rattle.std.specs.List.{list_any}
use Rattle.explain_places.specs.Places.{is_newline}
use Rattle.explain_regions.proofs.line.has_newline.Given as goal

abbrev pub invariant-loop-byte : goal.invariant-loop-byte
invariant-loop-byte l = list_any is_newline (drop l.byte-index l.text) ≡ list_any is_newline l.text
