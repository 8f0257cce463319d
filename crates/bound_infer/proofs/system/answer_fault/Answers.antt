use Rattle.std.proofs.Common.{refl, subst}
use Rattle.cost_free.specs.Read.{task_of}
use Rattle.infer_spec.specs.Generator.{system_at}
use Rattle.infer_spec.specs.Places.{rule_of}
use Rattle.simplex_checked.specs.Answers.{Stops}
use Rattle.bound_infer.proofs.system.answer_fault.Goals as goal

pub returns-in-Solve : goal.returns-in-Solve
returns-in-Solve c = λ A st fine tried stops.
    let task = task_of c.args.task.now in
    let first = c.seen_is_first.ensures A st task tried in
    (refl, first.solve fine _ _ _ (subst (Stops (rule_of A) (system_at A st task)) c.in-Solve.is stops))

pub returns-in-Scale : goal.returns-in-Scale
returns-in-Scale c = λ A st fine tried stops.
    let task = task_of c.args.task.now in
    let first = c.seen_is_first.ensures A st task tried in
    let s = subst (Stops (rule_of A) (system_at A st task)) c.in-Scale.is stops in
    (refl, first.scale fine s.0 s.1 s.2 _ s.3)

pub returns-in-Refute : goal.returns-in-Refute
returns-in-Refute c = λ A st fine tried stops.
    let task = task_of c.args.task.now in
    let first = c.seen_is_first.ensures A st task tried in
    let s = subst (Stops (rule_of A) (system_at A st task)) c.in-Refute.is stops in
    (refl, first.refute fine s.0 s.1 _ s.2)

pub returns-in-Least : goal.returns-in-Least
returns-in-Least c = λ A st fine tried stops.
    let task = task_of c.args.task.now in
    let first = c.seen_is_first.ensures A st task tried in
    let s = subst (Stops (rule_of A) (system_at A st task)) c.in-Least.is stops in
    (refl, first.least fine s.0 s.1 s.2 s.3 _ s.4)
