use Rattle.std.proofs.Common.{◌≡◌, ◌+◌, length}
use Rattle.constraint_gen.specs.Heard.{owed}
use Rattle.constraint_gen.proofs.Merging.{Merged}
use Rattle.constraint_gen.proofs.row.settle_all.Given as goal

abbrev pub invariant-loop-unknown : goal.invariant-loop-unknown
invariant-loop-unknown l = Merged (owed l.unknowns l.left.terms l.right.terms) l.left.terms l.right.terms l.first l.second l.row.terms × (l.row.right ≡ l.fn.row.right)

abbrev pub decreases-loop-unknown : goal.decreases-loop-unknown
decreases-loop-unknown l = length l.first + length l.second
