use Rattle.std.proofs.Common.{◌≡◌, ◌++◌, drop}
use Rattle.std.specs.List.{All}
use Rattle.explain_regions.specs.Read.{plain_lines}
use Rattle.explain_profile.specs.Rows.{all_lines, IsCounted}
use Rattle.explain_profile.specs.Read.{case_of}
use Rattle.explain_profile.proofs.rows.rows_of.Given as goal

abbrev pub invariant-loop-line : goal.invariant-loop-line
invariant-loop-line l = record {
  lines : all_lines l.rows.items ++ plain_lines (drop l.line-index l.lines) ≡ plain_lines l.lines;
  counted : All (IsCounted (case_of l.case)) l.rows.items;
}
