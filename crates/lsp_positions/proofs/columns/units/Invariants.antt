use Rattle.std.proofs.Common.{◌≡◌, ◌+◌, ◌*◌, ◌≤◌, drop}
use Rattle.lsp_positions.specs.Columns.{units}
use Rattle.lsp_positions.proofs.columns.units.Given as goal

abbrev pub invariant-loop-byte : goal.invariant-loop-byte
invariant-loop-byte l = record {
  few : l.count ≤ 2 * l.byte-index;
  sum : l.count + units l.encoding (drop l.byte-index l.bytes) ≡ units l.encoding l.bytes;
}
