use Rattle.std.proofs.Common.{◌≡◌, ◌*◌, ◌≤◌, take}
use Rattle.lsp_positions.specs.Columns.{units, last_below, is_within}
use Rattle.lsp_positions.proofs.columns.at_column.Given as goal

abbrev pub invariant-loop-place : goal.invariant-loop-place
invariant-loop-place l = record {
  few : l.used ≤ 2 * l.place;
  before : l.last ≤ l.place;
  used : l.used ≡ units l.encoding (take l.place l.line);
  last : l.last ≡ last_below (is_within l.encoding l.line l.column) l.place;
}
