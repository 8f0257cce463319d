use Rattle.std.proofs.Common.{sym, subst}
use Rattle.std.proofs.lemmas.Result.{on_ok_weaker}
use Rattle.cost_free.specs.Read.{task_of}
use Rattle.annot_types.specs.Program.{members}
use Rattle.annot_types.specs.Holds.{budget_of}
use Rattle.annot_types.specs.Read.{body_of}
use Rattle.rules_walk.specs.Sizes.{AreSizes}
use Rattle.share_normal.specs.Program.{source_in}
use Rattle.rules_plan.specs.Read.{program_in}
use Rattle.cert_check.proofs.Grouped.{have_sizes, functions_are, if_solved_more}
use Rattle.cert_check.proofs.course.remember.Goals as goal

pub returns : goal.returns
returns c = on_ok_weaker c.add.result
    (λ all blocks r s.
    let kept = c.args.program.now in
    let P = program_in kept in
    let task = task_of c.args.block.now.task in
    let fs = members P task.group in
    let budget = budget_of c.args.degree task.kind in
    all P blocks c.members-functions.ensures
    (if_solved_more (body_of c.args.block.now.body) _ (AreSizes P budget fs c.args.sizes.now)
    (λ e. subst (AreSizes P budget fs) (sym e) (have_sizes P fs blocks budget fs
    (functions_are (source_in kept) P.funs P.groups c.functions-functions.ensures.norm c.groups-groups.ensures.grouping.in_order task.group))) s) r)
    c.add.ensures.all
