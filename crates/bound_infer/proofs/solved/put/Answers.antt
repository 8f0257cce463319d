use Rattle.std.proofs.Common.{ap, ◌∙◌}
use Rattle.cost_free.specs.Read.{task_of}
use Rattle.annot_types.specs.Read.{body_of}
use Rattle.rules_plan.specs.Read.{program_in}
use Rattle.infer_spec.specs.States.{with_block}
use Rattle.bound_infer.specs.Keeping.{state_of}
use Rattle.bound_infer.proofs.Kept.{next_kept}
use Rattle.bound_infer.proofs.solved.put.Goals as goal

pub push_planned-requires-clause-next : goal.push_planned-requires-clause-next
push_planned-requires-clause-next c =
    next_kept (program_in c.args.program.now) c.args.d c.args.factor.now (state_of c.args.run.now) (state_of c.raise_for.new.run) (task_of c.args.block.task) c.in-Ok.ensures.state c.requires.next

pub returns-in-Ok-push_planned-clause-state : goal.returns-in-Ok-push_planned-clause-state
returns-in-Ok-push_planned-clause-state c = c.in-Ok-push_planned.ensures.state ∙ ap (with_block (task_of c.args.block.task) (body_of c.args.block.body)) c.in-Ok.ensures.state
