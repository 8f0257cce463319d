use Rattle.std.proofs.Common.{[], map, ap, ◌∙◌}
use Rattle.cost_free.specs.Read.{task_of}
use Rattle.annot_types.specs.Read.{body_of, blocks_of}
use Rattle.rules_plan.specs.Read.{program_in, function_of, group_bodies}
use Rattle.cert_check.specs.At.{sizes_of}
use Rattle.bound_infer.proofs.Kept.{if_solved, sizes_same}
use Rattle.bound_infer.proofs.solved.push_planned.Goals as goal

pub push-requires-clause-sizes : goal.push-requires-clause-sizes
push-requires-clause-sizes c =
    let P = program_in c.args.program.now in
    let plans = c.requires.plans in
    if_solved (body_of c.args.block.body) _
    (c.deref-2.ensures.value ∙ c.in_ok-sizes.ensures ∙ ap (λ fs. sizes_of (map function_of fs)) c.deref.ensures.value ∙ ap sizes_of plans.are.functions
    ∙ (λ i. sizes_of (group_bodies P (plans.group_is i) [] (plans.budget_is i)))
    ∙ sizes_same P c.args.d [] (blocks_of c.args.run.now.blocks.items) (task_of c.args.block.task))
