use Rattle.std.proofs.Common.{subst}
use Rattle.simplex_spec.specs.Courses.{rule_by}
use Rattle.simplex_checked.specs.Alone.{StopsAlone}
use Rattle.bound_contract.specs.Sites.{program_at, certificate_at, line_at, task_at, system_at}
use Rattle.bound_contract.proofs.solving.answer_fault.Goals as goal

pub returns-in-Solve : goal.returns-in-Solve
returns-in-Solve c = λ site pick system fine stops.
    let first = c.seen_is_first.ensures (program_at site) (certificate_at site) site.place (task_at site) (line_at site) pick system in
    first.solve fine _ _ _ (subst (StopsAlone (rule_by pick) (system_at site)) c.in-Solve.is stops)

pub returns-in-Scale : goal.returns-in-Scale
returns-in-Scale c = λ site pick system fine stops.
    let first = c.seen_is_first.ensures (program_at site) (certificate_at site) site.place (task_at site) (line_at site) pick system in
    let s = subst (StopsAlone (rule_by pick) (system_at site)) c.in-Scale.is stops in
    first.scaled fine s.0 s.1 s.2 _ s.3

pub returns-in-Refute : goal.returns-in-Refute
returns-in-Refute c = λ site pick system fine stops.
    let first = c.seen_is_first.ensures (program_at site) (certificate_at site) site.place (task_at site) (line_at site) pick system in
    let s = subst (StopsAlone (rule_by pick) (system_at site)) c.in-Refute.is stops in
    first.refute fine s.0 s.1 _ s.2
