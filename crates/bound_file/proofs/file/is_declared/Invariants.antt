use Rattle.std.proofs.Common.{◌≡◌, drop}
use Rattle.bound_file.specs.Answers.{is_declared}
use Rattle.bound_file.specs.Read.{lines_of}
use Rattle.bound_file.proofs.file.is_declared.Given as goal

abbrev pub invariant-loop-line : goal.invariant-loop-line
invariant-loop-line l = is_declared (lines_of (drop l.line-index l.lines)) l.fun.0 l.meter ≡ is_declared (lines_of l.lines) l.fun.0 l.meter
