use Rattle.std.proofs.Common.{ap, ◌∙◌}
use Rattle.std.proofs.lemmas.Result.{on_ok_weaker}
use Rattle.cost_free.specs.Read.{task_of}
use Rattle.annot_types.specs.Certificate.{Refuted}
use Rattle.infer_spec.specs.States.{with_block}
use Rattle.bound_infer.specs.Keeping.{state_of}
use Rattle.bound_infer.proofs.solved.refuted.Goals as goal

pub returns-clause-state : goal.returns-clause-state
returns-clause-state c = on_ok_weaker c.push.result
    (λ e ys is. e ∙ ap (λ es. with_block (task_of c.args.task.now) (Refuted es) (state_of c.args.run.now)) (c.in_ok-farkas.ensures ys is)) c.push.ensures.state
