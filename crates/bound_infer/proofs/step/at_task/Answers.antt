use Rattle.std.proofs.Common.{true, map, option_map, refl, sym, ap, ◌∙◌, arith}
use Rattle.cost_free.specs.Read.{task_of}
use Rattle.annot_types.specs.Certificate.{outcome}
use Rattle.annot_types.specs.Program.{results}
use Rattle.rules_plan.specs.Read.{program_in}
use Rattle.cert_check.proofs.Tasks.{task_is_low}
use Rattle.bound_infer.specs.Keeping.{state_of, analysis_in}
use Rattle.bound_infer.specs.Pivots.{Waiting}
use Rattle.bound_infer.proofs.Stepping.{waits_step, stands_at, begins}
use Rattle.bound_infer.proofs.step.at_task.Goals as goal

pub tried-requires-clause-budget : goal.tried-requires-clause-budget
tried-requires-clause-budget g c =
    let P = program_in c.args.program.now in
    let one = c.requires.one in
    let h = c.requires.here one.pick one.answers in
    let low = task_is_low (results P) P.groups c.args.d true (map outcome (state_of c.args.run.now).blocks) (task_of c.args.task.now) h.is_next in
    omega (arith, low, c.requires.low)

pub tried-requires-clause-begins : goal.tried-requires-clause-begins
tried-requires-clause-begins g c =
    let one = c.requires.one in
    let h = c.requires.here one.pick one.answers in
    begins c.scales_begin.ensures (analysis_in c.args.program.now c.args.d one.pick) (state_of c.args.run.now) h.reached

pub tried-requires-clause-stands : goal.tried-requires-clause-stands
tried-requires-clause-stands g c =
    let one = c.requires.one in
    let h = c.requires.here one.pick one.answers in
    stands_at c.args.program.now c.args.d one.pick (c.systems_generate.ensures (program_in c.args.program.now) c.requires.ordered c.args.d one.pick) (state_of c.args.run.now) (task_of c.args.task.now) h
    (sym c.waits_for.ensures ∙ ap (option_map (λ f. f.0)) c.in-None.is)

pub returns-in-Ok-clause-steps : goal.returns-in-Ok-clause-steps
returns-in-Ok-clause-steps g c = λ pick by.
    let A = analysis_in c.args.program.now c.args.d pick in
    let here = c.requires.here pick by in
    let waits = sym c.waits_for.ensures ∙ ap (option_map (λ f. f.0)) c.in-Some.is in (
      waits_step A (state_of c.args.run.now) (state_of c.waits.new.run) (task_of c.args.task.now) here c.in-Some.fun.0 waits c.in-Ok.ensures.state,
      record { task = task_of c.args.task.now; is_next = here.is_next; takes = Waiting c.in-Some.fun.0 waits refl },
      λ m e. omega arith,
    )
