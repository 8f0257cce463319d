-- The line on err.
use Rattle.std.specs.Prelude.{ℕ, List, [], codes, length}
use Rattle.raml_syntax.specs.Tree.{Text, Prog}
use Rattle.cost_free.specs.Read.{task_of}
use Rattle.cert_check.specs.Read.{fault_of}
use Rattle.refusal_text.specs.Plain.{usage_line, unread_line, too_long_line, no_function_line, write_failed_line, no_memory_line}
use Rattle.refusal_text.specs.Refusals.{source_line, other_source_line, data_line}
use Rattle.refusal_text.specs.Tasks.{too_large_line}
use Rattle.refusal_text.specs.Places.{solve_line, row_line, scale_line, rescale_line, check_line, refute_line, least_line, point_line}
use Rattle.refusal_text.specs.Places.{powers_line}
use Rattle.refusal_text.specs.declared.task.Analysed.{Analysed}
use Rattle.refusal_text.specs.declared.task.Analysed.TheVariants as analysed
use Rattle.price_file.specs.Text.{price_line}
use Rattle.bound_file.specs.Text.{bounds_line}
use Rattle.refusal_text.specs.DeclaredLines.{declared_too_large_line, declared_leaves_line}
use Rattle.refusal_text.specs.Certificates.{json_line, certificate_line, not_refuted_line}
use Rattle.bound_infer.specs.declared.leaves.LeavesAt.{LeavesAt}
use Rattle.bound_infer.specs.declared.refusal.InferFault.{InferFault}
use Rattle.bound_infer.specs.declared.refusal.InferFault.TheVariants as infer
use Rattle.bound_infer.specs.declared.leaves.LeavesAt.TheVariants.{Solve, Row, Scale, Rescale, Check, Refute, Least}
use Rattle.refusals.specs.declared.status.Status.{Status}
use Rattle.refusals.specs.declared.status.Status.TheVariants as s
use Rattle.refusals.specs.declared.status.CertAnswer.TheVariants as c
use Rattle.refusals.specs.declared.status.OverflowAt.TheVariants as o

-- the program whose functions a line on err names, with their groups; empty before one is read
pub record Names : Type 0 where
  pub program : Prog
  pub groups : List (List ℕ)

abbrev pub no_names : Names
no_names = record { program = []; groups = [] }

-- where a number leaves 128 bits
abbrev pub leaves_line : Analysed → Names → LeavesAt → Text
leaves_line whose names (Solve task pivots row col) =
    solve_line whose names.program names.groups (task_of task) (length pivots.items) row col
leaves_line whose names (Row task row) = row_line whose names.program names.groups (task_of task) row
leaves_line whose names (Scale task entry) = scale_line whose names.program names.groups (task_of task) entry
leaves_line whose names (Rescale task block) = rescale_line whose names.program names.groups (task_of task) block
leaves_line whose names (Check block path index) = check_line whose block path.items index
leaves_line whose names (Refute task column) = refute_line whose names.program names.groups (task_of task) column
leaves_line whose names (Least task column) = least_line whose names.program names.groups (task_of task) column

-- why a course has no certificate; want of memory is no cause
abbrev pub course_line : Analysed → Names → InferFault → Text
course_line whose names (infer.TooLarge task what) = too_large_line whose names.program names.groups (task_of task) what
course_line whose names (infer.Leaves place) = leaves_line whose names place
course_line whose names infer.NoMemory = []

-- The line of a status; a report has none.
abbrev pub line_of : Names → Status → Text
line_of names s.Usage = usage_line
line_of names (s.ReadFault which) = unread_line which
line_of names (s.TooLong which) = too_long_line which
line_of names (s.Source fault) = source_line fault
line_of names (s.Data fault) = data_line fault
line_of names s.NoFunction = no_function_line
line_of names (s.Certificate (c.Json fault)) = json_line fault
line_of names (s.Certificate (c.Check fault)) = certificate_line names.program names.groups (fault_of fault)
line_of names (s.Certificate (c.NotRefuted block)) = not_refuted_line block
line_of names (s.TooLarge task what) = too_large_line analysed.Program names.program names.groups (task_of task) what
line_of names (s.Overflow (o.At place)) = leaves_line analysed.Program names place
line_of names (s.Overflow (o.Point meter)) = point_line meter
line_of names (s.Overflow (o.Powers fun meter)) = powers_line names.program fun.0 meter
line_of names (s.Prices fault) = price_line fault
line_of names (s.Declared fault) = bounds_line fault
line_of names (s.LineTooLarge line) = declared_too_large_line line
line_of names (s.Overflow (o.DeclaredBound line)) = declared_leaves_line line
line_of names (s.OtherSource fault) = other_source_line fault
line_of names (s.OtherFault fault) = course_line analysed.Other names fault
line_of names s.WriteFault = write_failed_line
line_of names s.NoMemory = no_memory_line
line_of names s.Done = codes ""
line_of names s.Stopped = codes ""
line_of names s.HeapFull = codes ""
