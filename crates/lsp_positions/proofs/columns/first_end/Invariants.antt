use Rattle.std.proofs.Common.{◌≡◌, ◌++◌, take, drop}
use Rattle.lsp_positions.specs.Lines.{before_ending}
use Rattle.lsp_positions.proofs.columns.first_end.Given as goal

abbrev pub invariant-loop-byte : goal.invariant-loop-byte
invariant-loop-byte l = record {
  here : l.end ≡ l.byte-index;
  seen : take l.byte-index l.bytes ++ before_ending (drop l.byte-index l.bytes) ≡ before_ending l.bytes;
}
