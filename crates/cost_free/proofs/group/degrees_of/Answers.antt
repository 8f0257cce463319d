use Rattle.std.proofs.Common.{◌≡◌, Option, true, false, subst}
use Rattle.std.specs.Prelude.{IfOk, OnOk}
use Rattle.raml_syntax.specs.Tree.{Type'}
use Rattle.cost_free.specs.Numbered.{degrees_at}
use Rattle.cost_free.specs.Refused.{has_more}
use Rattle.cost_free.proofs.GroupTasks.{got}
use Rattle.cost_free.proofs.Results.{on_few, many}
use Rattle.cost_free.proofs.group.degrees_of.Goals as goal

pub returns-in-Some-clause-all : goal.returns-in-Some-clause-all
returns-in-Some-clause-all c =
    let look = c.in-Some.ensures.lookup in
    subst (λ (o : Option Type'). IfOk c.target_degrees.result (λ found. found.items ≡ degrees_at o c.args.plan.degree))
    (got c.args.plan.results.now c.args.fun.0 c.in-Some.ty.now look.3.0 look.1) c.target_degrees.ensures.all

pub returns-in-Some-clause-few : goal.returns-in-Some-clause-few
returns-in-Some-clause-few c =
    let look = c.in-Some.ensures.lookup in
    subst (λ (o : Option Type'). OnOk c.target_degrees.result (has_more c.args.most c.args.plan.degree o ≡ false))
    (got c.args.plan.results.now c.args.fun.0 c.in-Some.ty.now look.3.0 look.1) (on_few c.target_degrees.result _ c.args.most c.target_degrees.ensures.few)

pub returns-in-Some-clause-many : goal.returns-in-Some-clause-many
returns-in-Some-clause-many c =
    let look = c.in-Some.ensures.lookup in
    λ is. subst (λ (o : Option Type'). has_more c.args.most c.args.plan.degree o ≡ true)
    (got c.args.plan.results.now c.args.fun.0 c.in-Some.ty.now look.3.0 look.1) (many _ c.args.most (c.target_degrees.ensures.many is))
