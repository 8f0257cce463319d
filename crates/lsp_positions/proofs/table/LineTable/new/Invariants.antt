use Rattle.std.proofs.Common.{◌≡◌, ◌++◌, drop}
use Rattle.lsp_positions.specs.Lines.{starts_behind, line_starts}
use Rattle.lsp_positions.proofs.table.LineTable.new.Given as goal

abbrev pub invariant-loop-place : goal.invariant-loop-place
invariant-loop-place l = l.starts.items ++ starts_behind l.place (drop l.place l.bytes) ≡ line_starts l.bytes
