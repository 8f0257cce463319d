-- What the code's places and lines are as plain data.
use Rattle.std.specs.Prelude.{Option, Some, None}
use Rattle.base_poly.specs.Poly.{den_of, terms_of, IsPoly}
use Rattle.cost_free.specs.Task.{Task}
use Rattle.cost_free.specs.Read.{task_of}
use Rattle.annot_types.specs.Held as c
use Rattle.constraint_gen.specs.declared.fault.What.{What}
use Rattle.constraint_gen.specs.declared.fault.What.TheVariants.{Indices, Unknowns, Rows}
use Rattle.infer_spec.specs.Generator as g
use Rattle.infer_spec.specs.Places as p
use Rattle.infer_spec.specs.Places.{Place}
use Rattle.bound_infer.specs.declared.leaves.LeavesAt.{LeavesAt}
use Rattle.bound_infer.specs.declared.leaves.LeavesAt.TheVariants.{Solve, Row, Scale, Rescale, Check, Refute, Least}
use Rattle.bound_infer.specs.declared.line.Line.{Line}
use Rattle.bound_infer.specs.declared.line.Line.TheVariants.{Bound, NoBound, Calls}

abbrev pub what_of : What → g.What
what_of Indices = g.Indices
what_of Unknowns = g.Unknowns
what_of Rows = g.Rows

-- the task and the place on it; none for a place of the certificate's check
abbrev pub told_of : LeavesAt → Option (Task × Place)
told_of (Solve task pivots row col) = Some (task_of task, p.Solve pivots.items row col)
told_of (Row task row) = Some (task_of task, p.Row row)
told_of (Scale task entry) = Some (task_of task, p.Scale entry)
told_of (Rescale task block) = Some (task_of task, p.Rescale block)
told_of (Check block path index) = None
told_of (Refute task column) = Some (task_of task, p.Refute column)
told_of (Least task column) = Some (task_of task, p.Least column)

abbrev pub claim_of : Line → c.Claim
claim_of (Bound poly) = c.Bound (den_of poly) (terms_of poly)
claim_of NoBound = c.NoBound
claim_of (Calls fun) = c.CallsUnbounded fun.0

-- a bound is a polynomial that can be written
abbrev pub IsWritten : Line → Type 0
IsWritten (Bound poly) = IsPoly poly
IsWritten NoBound = Unit {0}
IsWritten (Calls fun) = Unit {0}
