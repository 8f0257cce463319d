use Rattle.std.proofs.Common.{◌≡◌, drop}
use Rattle.explain_regions.specs.Read.{plain_lines}
use Rattle.explain_counts.specs.Lines.{first_of}
use Rattle.explain_counts.proofs.line.first_of.Given as goal

abbrev pub invariant-loop-line : goal.invariant-loop-line
invariant-loop-line l = first_of l.part (plain_lines (drop l.line-index l.lines)) ≡ first_of l.part (plain_lines l.lines)
