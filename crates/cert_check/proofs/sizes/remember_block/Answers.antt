use Rattle.std.proofs.Common.{◌≡◌, ℕ, List, ap, sym, ◌∙◌, subst, map}
use Rattle.std.specs.Prelude.{slice_get}
use Rattle.std.specs.List.{All}
use Rattle.std.proofs.lemmas.Result.{on_ok_weaker}
use Rattle.cost_free.specs.Read.{kind_of, task_of}
use Rattle.annot_types.specs.Held.{IfSolved}
use Rattle.annot_types.specs.Holds.{budget_of}
use Rattle.annot_types.specs.Program.{members}
use Rattle.annot_types.specs.Read as a
use Rattle.rules_plan.specs.Read.{program_in, GroupWithin}
use Rattle.rules_plan.specs.Within.{FunctionWithin}
use Rattle.cert_check.specs.At.{sizes_in}
use Rattle.cert_check.specs.Sizes.{fun_sizes}
use Rattle.cert_check.proofs.Sizing.{bodies_have, where_solved}
use Rattle.cert_check.proofs.sizes.remember_block.Goals as goal

pub sizes-requires : goal.sizes-requires
sizes-requires c =
    let P = program_in c.args.program.now in
    let block = c.args.block.now in
    subst (λ (x : ℕ × List ℕ). All (λ f. FunctionWithin 2000 (slice_get P.funs f) x.0) x.1) (λ i. (sym c.budget_of-budget.ensures i, sym c.members-functions.ensures i))
    (subst (λ body. IfSolved body (GroupWithin P block.task.group (budget_of c.args.degree (kind_of block.task.kind)))) (ap a.body_of c.in-Solved.is) c.requires)

pub returns-in_ok-sizes-in-Solved : goal.returns-in_ok-sizes-in-Solved
returns-in_ok-sizes-in-Solved c = on_ok_weaker c.remember.result
    (λ all blocks r.
    let P = program_in c.args.program.now in
    let block = c.args.block.now in
    let fs = members P block.task.group in
    let sizes : c.deref.result.now ≡ sizes_in P c.args.degree blocks (task_of block.task) =
    c.deref.ensures.value ∙ c.in_ok-sizes-in-Solved.ensures
    ∙ (λ i. map (λ f. fun_sizes (c.budget_of-budget.ensures i) (slice_get P.funs f)) (c.members-functions.ensures i))
    ∙ bodies_have P fs blocks (budget_of c.args.degree (kind_of block.task.kind)) fs in
    all blocks r (where_solved (a.body_of block.body) (c.deref.result.now ≡ sizes_in P c.args.degree blocks (task_of block.task)) sizes))
    c.remember.ensures
