use Rattle.std.proofs.Common.{◌≤◌, ◌-◌}
use Rattle.share_normal.specs.Program.{source_in}
use Rattle.rules_plan.specs.Read.{program_in}
use Rattle.explain_degrees.specs.Degrees.{AreLeast}
use Rattle.explain_degrees.proofs.least.least_bounds_within.Given as goal

abbrev pub decreases-loop-degree : goal.decreases-loop-degree
decreases-loop-degree l = l.most - l.degree

abbrev pub invariant-loop-degree : goal.invariant-loop-degree
invariant-loop-degree l = (l.degree ≤ l.most) × AreLeast (source_in l.program) (program_in l.program) l.degree l.found
