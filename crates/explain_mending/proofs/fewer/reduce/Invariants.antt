use Rattle.std.proofs.Common.{◌++◌, drop}
use Rattle.explain_lines.specs.Read.{lines_of}
use Rattle.explain_mending.specs.Mended.{AreAmong, Keeps}
use Rattle.explain_mending.proofs.fewer.reduce.Given as goal

abbrev pub invariant-loop-place : goal.invariant-loop-place
invariant-loop-place g l =
    AreAmong l.changes l.fewer.kept.items
    × Keeps (g.A.Attempt.tried l.attempt) (lines_of l.lines) (l.fewer.kept.items ++ drop l.place l.changes) l.fewer.trial
