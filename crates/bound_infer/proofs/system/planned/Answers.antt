use Rattle.cost_free.specs.Read.{task_of}
use Rattle.rules_plan.specs.Read.{program_in}
use Rattle.constraint_gen.specs.Cause.{IsWithin}
use Rattle.bound_infer.specs.Keeping.{state_of, analysis_in}
use Rattle.bound_infer.proofs.Limited.{too_many}
use Rattle.bound_infer.proofs.Answering.{gen_stops, plan_limit, plan_row}
use Rattle.bound_infer.proofs.system.planned.Goals as goal

pub returns-in-Err-clause-fault : goal.returns-in-Err-clause-fault
returns-in-Err-clause-fault c = λ pick.
    let P = program_in c.args.program.now in
    let A = analysis_in c.args.program.now c.args.d pick in
    let st = state_of c.args.run.now in
    let task = task_of c.args.task.now in
    let stands = c.requires.stands pick in
    gen_stops A st c.args.task.now c.seen_is_first.ensures stands.tried c.in-Err.fault c.gen_fault.result c.gen_fault.ensures.large c.gen_fault.ensures.leaves c.gen_fault.ensures.memory
    (plan_limit (IsWithin P c.args.d task) A st c.args.task.now (too_many A (c.limits_are_told.ensures P c.args.d) st task) c.in-Err.fault c.in-Err.ensures.fault)
    (λ row e. plan_row (IsWithin P c.args.d task) _ c.in-Err.fault c.in-Err.ensures.fault row e)
