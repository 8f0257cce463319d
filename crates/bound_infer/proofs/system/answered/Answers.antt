use Rattle.std.proofs.Common.{subst, map, ap, ◌∙◌}
use Rattle.cost_free.specs.Read.{task_of}
use Rattle.annot_types.specs.Holds.{budget_of}
use Rattle.annot_types.specs.Read.{blocks_of}
use Rattle.rules_plan.specs.Read.{program_in, body_of}
use Rattle.simplex_spec.specs.Courses.{rule_by}
use Rattle.simplex_checked.specs.Answers.{Stops}
use Rattle.simplex_checked.specs.Limits.{IsWithin}
use Rattle.bound_infer.specs.Keeping.{state_of, analysis_in}
use Rattle.bound_infer.proofs.system.answered.Goals as goal

pub system-requires-clause-plans : goal.system-requires-clause-plans
system-requires-clause-plans g c =
    let task = task_of c.args.task.now in
    let run = c.args.run.now in
    ap (map body_of) c.deref.ensures.value
    ∙ c.in-Ok.ensures (program_in c.args.program.now) task.group (budget_of c.args.d task.kind) (blocks_of run.blocks.items) c.requires.plans c.requires.keeps.come.remembers.usable

pub returns-in-Err-clause-fault : goal.returns-in-Err-clause-fault
returns-in-Err-clause-fault g c = λ pick by. c.in-Err.ensures.fault pick

pub returns-in-Ok-whole_answer_within-clause-answer : goal.returns-in-Ok-whole_answer_within-clause-answer
returns-in-Ok-whole_answer_within-clause-answer g c = λ pick by.
    let h = c.in-Ok-system.ensures.made pick in
    record { fine = h.fine; is = subst (λ s. IsWithin (rule_by pick) s c.args.solver.now.most c.in-Ok-whole_answer_within.within) h.is (c.in-Ok-whole_answer_within.ensures.within pick by) }

pub returns-clause-fault : goal.returns-clause-fault
returns-clause-fault g c = λ pick by.
    let h = c.in-Ok-system.ensures.made pick in
    let stands = c.requires.stands pick in
    c.answer_fault.ensures (analysis_in c.args.program.now c.args.d pick) (state_of c.args.run.now) h.fine stands.tried
    (subst (λ s. Stops (rule_by pick) s c.in-Err-whole_answer_within.fault) h.is (c.in-Err-whole_answer_within.ensures.fault pick by))
