use Rattle.std.proofs.Common.{◌≡◌, ◌-◌, ℕ, length, true}
use Rattle.annot_types.specs.Program.{results}
use Rattle.cost_free.specs.Schedule.{tasks_from}
use Rattle.rules_plan.specs.Read.{program_in}
use Rattle.simplex.specs.Solving.{UpTo}
use Rattle.bound_infer.specs.Cursor.{IsAnalysisOf, IsOnCourse}
use Rattle.bound_infer.specs.Keeping.{state_of, analysis_in, ByEach}
use Rattle.bound_infer.specs.Pivots.{ReachedWith, left}
use Rattle.bound_infer.proofs.inference.infer_within.Given as goal

abbrev pub invariant-loop-inference : goal.invariant-loop-inference
invariant-loop-inference g l =
    IsAnalysisOf l.program l.d l.chooser l.inference × IsOnCourse g.F.Fn l.inference
    × (used : ℕ)
    × UpTo l.fn.budget used
    × (l.rest ≡ left l.fn.budget used)
    × ByEach g.F.Fn l.chooser (λ pick. ReachedWith (analysis_in l.program l.d pick) (state_of l.inference.run) used)

abbrev pub decreases-loop-inference : goal.decreases-loop-inference
decreases-loop-inference g l = length (tasks_from (results (program_in l.program)) l.d true 0 (program_in l.program).groups) - length (state_of l.inference.run).blocks
