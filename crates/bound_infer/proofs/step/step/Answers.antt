use Rattle.std.proofs.Common.{Err, sym, ap, ◌∙◌, subst}
use Rattle.std.specs.Option.{option_map}
use Rattle.cost_free.specs.Read.{task_of}
use Rattle.rules_plan.specs.Read.{program_in}
use Rattle.constraint_gen.proofs.Whole.{if_ok, if_err}
use Rattle.infer_spec.specs.Courses.{IsOver}
use Rattle.bound_infer.specs.Keeping.{state_of, analysis_in}
use Rattle.bound_infer.specs.After.{IsAfter, IsAtHand, StopsIn}
use Rattle.bound_infer.proofs.Leading.{stops_on}
use Rattle.bound_infer.proofs.Refusing.{is_told, stops}
use Rattle.bound_infer.proofs.step.step.Goals as goal

pub refused-requires : goal.refused-requires
refused-requires g c =
    let one = c.requires.one in
    is_told (analysis_in c.args.program.now c.args.d one.pick) (c.systems_generate.ensures (program_in c.args.program.now) c.requires.ordered c.args.d one.pick) (state_of c.args.run.now)
    (c.requires.reached one.pick one.answers) (c.in-Err-TooMany.ensures.many (ap Err c.in-Err-TooMany.field-0-is))

pub at_task-requires-clause-here : goal.at_task-requires-clause-here
at_task-requires-clause-here g c = λ pick by.
    let A = analysis_in c.args.program.now c.args.d pick in
    subst (λ st. IsAtHand A st (task_of c.in-Ok-Some.task)) (sym c.current.ensures.state)
    (record { reached = c.requires.reached pick by; is_next = sym c.in-Ok-Some.ensures.next ∙ ap (option_map task_of) c.in-Ok-Some.field-0-is; goes_on = c.in-Ok-Some.ensures.goes_on })

pub returns-in-Err-TooMany-clause-stops : goal.returns-in-Err-TooMany-clause-stops
returns-in-Err-TooMany-clause-stops g c = λ pick by.
    stops (analysis_in c.args.program.now c.args.d pick) (c.systems_generate.ensures (program_in c.args.program.now) c.requires.ordered c.args.d pick) (state_of c.args.run.now)
    (c.requires.reached pick by) (c.in-Err-TooMany.ensures.many (ap Err c.in-Err-TooMany.field-0-is)) c.refused.result c.refused.ensures

pub returns-in-Ok-None-clause-steps : goal.returns-in-Ok-None-clause-steps
returns-in-Ok-None-clause-steps g c = λ pick by.
    (subst (IsOver (analysis_in c.args.program.now c.args.d pick)) (sym c.current.ensures.state) (sym c.in-Ok-None.ensures.next ∙ ap (option_map task_of) c.in-Ok-None.field-0-is), c.current.ensures.state)

pub returns-in-Ok-Some-clause-steps : goal.returns-in-Ok-Some-clause-steps
returns-in-Ok-Some-clause-steps g c = if_ok c.at_task.result _ _
    (λ progress h pick by. subst (λ st. IsAfter (analysis_in c.args.program.now c.args.d pick) c.args.solver.now.most st (state_of c.at_task.new.run) progress) c.current.ensures.state (h pick by))
    c.at_task.ensures.steps

pub returns-in-Ok-Some-clause-stops : goal.returns-in-Ok-Some-clause-stops
returns-in-Ok-Some-clause-stops g c = if_err c.at_task.result _ _
    (λ fault s pick by.
    let A = analysis_in c.args.program.now c.args.d pick in
    let h = subst (λ st. IsAtHand A st (task_of c.in-Ok-Some.task)) (sym c.current.ensures.state)
    (record { reached = c.requires.reached pick by; is_next = sym c.in-Ok-Some.ensures.next ∙ ap (option_map task_of) c.in-Ok-Some.field-0-is; goes_on = c.in-Ok-Some.ensures.goes_on }) in
    subst (λ st. StopsIn A st fault) c.current.ensures.state (stops_on A (state_of c.current.new.run) (task_of c.in-Ok-Some.task) fault h (s pick by)))
    c.at_task.ensures.stops
