use Rattle.std.proofs.Common.{◌-◌, ◌^◌, length}
use Rattle.simplex_spec.specs.Tableaux.{right}
use Rattle.simplex.specs.Solving.{rule_of, Reached, IsReady, UpTo}
use Rattle.simplex.proofs.solver.run.Given as goal

abbrev pub invariant-loop-scratch : goal.invariant-loop-scratch
invariant-loop-scratch g l = Reached (rule_of g.F.Fn l.chooser) l.system l.table × IsReady (right l.system) l.table l.scratch × UpTo l.most (length l.table.pivots.items)

abbrev pub decreases-loop-scratch : goal.decreases-loop-scratch
decreases-loop-scratch g l = 2 ^ right l.system - length l.table.pivots.items
