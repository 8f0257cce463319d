use Rattle.std.proofs.Common.{◌≡◌, drop}
use Rattle.lsp_frames.specs.Marks.{after_blanks}
use Rattle.lsp_frames.proofs.blanks.first_start.Given as goal

abbrev pub invariant-loop-byte : goal.invariant-loop-byte
invariant-loop-byte l = record {
  here : l.start ≡ l.byte-index;
  seen : after_blanks (drop l.byte-index l.text) ≡ after_blanks l.text;
}
