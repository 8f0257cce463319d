use Rattle.std.proofs.Common.{◌∙◌}
use Rattle.std.proofs.lemmas.Result.{on_ok_weaker}
use Rattle.cost_free.specs.Read.{task_of}
use Rattle.annot_types.specs.Certificate.{Solved}
use Rattle.infer_spec.specs.States.{raise as raise_state, with_block}
use Rattle.bound_infer.specs.Keeping.{state_of}
use Rattle.bound_infer.proofs.solved.solved.Goals as goal

pub returns-in-Ok-clause-state : goal.returns-in-Ok-clause-state
returns-in-Ok-clause-state c =
    let st = state_of c.args.run.now in
    let task = task_of c.args.task.now in
    let factor = c.args.factor.now in
    let sigs = c.in-Ok.ensures.sigs in
    let hints = c.in-Ok.ensures.hints in
    on_ok_weaker c.put.result (λ e pick. e ∙ (λ i. with_block task (Solved (sigs i) (hints i)) (raise_state task.kind factor st))) c.put.ensures.state
