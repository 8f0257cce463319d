use Rattle.std.proofs.Common.{subst, sym}
use Rattle.std.proofs.lemmas.Result.{on_ok_weaker}
use Rattle.cost_free.specs.Read.{kind_of}
use Rattle.annot_types.specs.Held.{IfSolved}
use Rattle.annot_types.specs.Holds.{budget_of}
use Rattle.annot_types.specs.Program.{members}
use Rattle.annot_types.specs.Read.{body_of}
use Rattle.rules_walk.specs.Sizes.{AreSizes}
use Rattle.rules_plan.specs.Read.{program_in}
use Rattle.bound_infer.proofs.blocks.remember.Goals as goal

pub returns : goal.returns
returns c =
    let P = program_in c.args.program.now in
    let block = c.args.block.now in
    on_ok_weaker c.add.result
    (λ all blocks r. all P blocks c.members.ensures
    (subst (λ sizes. IfSolved (body_of block.body) (AreSizes P (budget_of c.args.degree (kind_of block.task.kind)) (members P block.task.group) sizes)) (sym c.deref.ensures.value) c.in_ok-sizes.ensures) r)
    c.add.ensures.all
