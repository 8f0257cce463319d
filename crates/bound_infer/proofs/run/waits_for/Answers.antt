use Rattle.std.proofs.Common.{◌≡◌, refl, sym, ap, ◌∙◌, length}
use Rattle.cost_free.specs.Blocked.{blocked}
use Rattle.cost_free.specs.Read.{task_of}
use Rattle.annot_types.specs.Read.{blocks_of}
use Rattle.share_normal.specs.Program.{norm_in}
use Rattle.cert_check.proofs.Going.{blocker_there}
use Rattle.bound_infer.specs.Keeping.{first_of}
use Rattle.bound_infer.proofs.run.waits_for.Goals as goal

pub returns : goal.returns
returns c =
    let kept = c.args.program.now in
    let run = c.args.run.now in
    let task = task_of c.args.task.now in
    let count : length kept.results ≡ length kept.functions =
    ap length (sym c.results-results.ensures.results) ∙ c.results-results.ensures.count
    ∙ sym (ap length (sym c.functions-functions.ensures.functions) ∙ c.functions-functions.ensures.count) in
    c.blocked.ensures
    ∙ (λ i. blocked ((c.groups.ensures.groups i).list) ((c.groups.ensures.groups i).calls) task (c.done.ensures i))
    ∙ blocker_there kept count (first_of c.args.d) (blocks_of run.blocks.items) run.schedule run.earlier c.requires.keeps.come (norm_in kept) refl c.functions-functions.ensures.norm
    c.groups.ensures.grouping.calls task
