use Rattle.std.proofs.Common.{refl, subst}
use Rattle.cost_free.specs.Read.{task_of}
use Rattle.infer_spec.specs.Generator.{system_at}
use Rattle.infer_spec.specs.Places.{rule_of}
use Rattle.simplex_checked.specs.Limits.{IsWithin}
use Rattle.bound_infer.specs.Keeping.{state_of, analysis_in}
use Rattle.bound_infer.specs.Pivots.{Solving}
use Rattle.bound_infer.proofs.step.by_plans.Goals as goal

pub carried-requires-clause-answer : goal.carried-requires-clause-answer
carried-requires-clause-answer g c = λ pick by.
    let A = analysis_in c.args.program.now c.args.d pick in
    let h = c.in-Ok-Answered.ensures.answer pick by in
    let w = subst (IsWithin (rule_of A) (system_at A (state_of c.args.run.now) (task_of c.args.task.now)) c.args.solver.now.most) c.in-Ok-Answered.field-0-is h.is in
    record { fine = h.fine; is = w.0 }

pub returns-in-Ok-Cut-clause-steps : goal.returns-in-Ok-Cut-clause-steps
returns-in-Ok-Cut-clause-steps g c = λ pick by.
    let A = analysis_in c.args.program.now c.args.d pick in
    let here = c.requires.here pick by in
    let stands = c.requires.stands pick in
    let h = c.in-Ok-Cut.ensures.answer pick by in
    let w = subst (IsWithin (rule_of A) (system_at A (state_of c.args.run.now) (task_of c.args.task.now)) c.args.solver.now.most) c.in-Ok-Cut.field-0-is h.is in
    (record { task = task_of c.args.task.now; is_next = here.is_next; goes_on = here.goes_on; tried = stands.tried; fine = h.fine; cut = w }, refl)

pub returns-in-Ok-clause-steps : goal.returns-in-Ok-clause-steps
returns-in-Ok-clause-steps g c = λ pick by.
    let A = analysis_in c.args.program.now c.args.d pick in
    let here = c.requires.here pick by in
    let stands = c.requires.stands pick in
    let h = c.in-Ok-Answered.ensures.answer pick by in
    let w = subst (IsWithin (rule_of A) (system_at A (state_of c.args.run.now) (task_of c.args.task.now)) c.args.solver.now.most) c.in-Ok-Answered.field-0-is h.is in
    (c.in-Ok.ensures.steps pick by, record { task = task_of c.args.task.now; is_next = here.is_next; takes = Solving stands.tried w.1 }, w.2)
