use Rattle.std.proofs.Common.{◌∙◌, ◌++◌, ◌∷◌, [], ap, sym, map, subst}
use Rattle.std.proofs.lemmas.Result.{IfOk-weaker}
use Rattle.std.specs.Rc.{rc_value}
use Rattle.raml_syntax.specs.Read.{ty_of}
use Rattle.base_poly.specs.Read.{context_of}
use Rattle.index_shift.specs.Maps.{opening, leaving, sharing}
use Rattle.normal_spec.specs.Norm as n
use Rattle.normal_spec.specs.Context.{types, place, without, opened, parts_of, inners}
use Rattle.normal_spec.specs.Read.{norm_of, parameters_of}
use Rattle.rules_spec.specs.Plan as p
use Rattle.rules_spec.specs.Planned.{step, part_steps, leaving_step, opening_step}
use Rattle.rules_walk.specs.Read.{plan_of}
use Rattle.rules_plan.specs.Given.{given_of, all_down, made_of, planned, AreReached, ArePlans}
use Rattle.rules_plan.proofs.Formed.{plain, tick_is, branch_is, moves_are, forks_are, shares_are}
use Rattle.rules_plan.proofs.Shapes.{node_is, list_is, tree_is, option_is}
use Rattle.rules_plan.proofs.Widened.{lets_are}
use Rattle.rules_plan.proofs.plan.+plan.Goals as goal

pub left-returns : goal.left-returns
left-returns t c =
    let a = c.args in let C = parameters_of a.context.now in
    branch_is (given_of a.env.now) (λ N d. step (types N) d (leaving (types C) (place a.x C) d)) (norm_of a.a.now) (parameters_of c.in_ok-next.next.items) (parameters_of c.deref.result.now) (without a.x C) (ty_of a.ty.now)
    c.in_ok-change.change (made_of c.in_ok-rests.rests.items) c.in_ok-next.ensures (ap parameters_of c.deref.ensures.value ∙ c.in_ok-next.ensures) c.in_ok-change.ensures c.in_ok-rests.ensures

pub taken_apart-returns : goal.taken_apart-returns
taken_apart-returns t c =
    let a = c.args in let C = parameters_of a.context.now in
    branch_is (given_of a.env.now) (λ N d. step (types N) d (opening (types C) (place a.x C) d)) (norm_of a.a.now) (parameters_of c.in_ok-next.next.items) (parameters_of c.deref.result.now)
    (opened a.x a.names.now parts_of C) (ty_of a.ty.now)
    c.in_ok-change.change (made_of c.in_ok-rests.rests.items) c.in_ok-next.ensures (ap parameters_of c.deref.ensures.value ∙ c.in_ok-next.ensures) c.in_ok-change.ensures c.in_ok-rests.ensures

pub plan_split-returns : goal.plan_split-returns
plan_split-returns t c =
    let a = c.args in let C = parameters_of a.context.now in let G = given_of a.env.now in let ys = a.first ∷ a.second ∷ [] in
    IfOk-weaker c.moves.result _ (λ made. ArePlans G (n.Split a.nodes a.x a.first a.second (norm_of a.a.now)) C (ty_of a.ty.now) (made_of made.items))
    (λ made is. moves_are G a.nodes (opening_step C a.x ys) (norm_of a.a.now) (opened a.x ys parts_of C) (ty_of a.ty.now) c.in_ok-branch.branch.change (made_of c.in_ok-branch.branch.rests.items) (made_of made.items) is c.in_ok-branch.ensures)
    c.moves.ensures

pub plan_drop-returns : goal.plan_drop-returns
plan_drop-returns t c =
    let a = c.args in let C = parameters_of a.context.now in let G = given_of a.env.now in
    IfOk-weaker c.moves.result _ (λ made. ArePlans G (n.Drop a.nodes a.x (norm_of a.a.now)) C (ty_of a.ty.now) (made_of made.items))
    (λ made is. moves_are G a.nodes (leaving_step C a.x) (norm_of a.a.now) (without a.x C) (ty_of a.ty.now) c.in_ok-branch.branch.change (made_of c.in_ok-branch.branch.rests.items) (made_of made.items) is c.in_ok-branch.ensures)
    c.moves.ensures

pub plan_if-returns : goal.plan_if-returns
plan_if-returns t c =
    let a = c.args in let C = parameters_of a.context.now in let G = given_of a.env.now in
    IfOk-weaker c.forked.result _ (λ made. ArePlans G (n.If a.nodes a.x (norm_of a.a.now) (norm_of a.b.now)) C (ty_of a.ty.now) (made_of made.items))
    (λ made is. forks_are G a.nodes (leaving_step C a.x) (leaving_step C a.x) (norm_of a.a.now) (norm_of a.b.now) (without a.x C) (without a.x C) (ty_of a.ty.now)
    c.in_ok-first.first.change c.in_ok-second.second.change (made_of c.in_ok-first.first.rests.items) (made_of c.in_ok-second.second.rests.items) (made_of made.items) is c.in_ok-first.ensures c.in_ok-second.ensures)
    c.forked.ensures

pub plan_case-returns : goal.plan_case-returns
plan_case-returns t c =
    let a = c.args in let C = parameters_of a.context.now in let G = given_of a.env.now in let T = ty_of a.ty.now in let ys = a.names.now in
    IfOk-weaker c.forked.result _ (λ made. AreReached G (λ P d. p.Forks a.nodes (leaving_step C a.x d) (planned G (norm_of a.a.now) (without a.x C) T P d)
    (opening_step C a.x ys d) (planned G (norm_of a.b.now) (opened a.x ys parts_of C) T P d)) (made_of made.items))
    (λ made is. forks_are G a.nodes (leaving_step C a.x) (opening_step C a.x ys) (norm_of a.a.now) (norm_of a.b.now) (without a.x C) (opened a.x ys parts_of C) T
    c.in_ok-first.first.change c.in_ok-second.second.change (made_of c.in_ok-first.first.rests.items) (made_of c.in_ok-second.second.rests.items) (made_of made.items) is c.in_ok-first.ensures c.in_ok-second.ensures)
    c.forked.ensures

pub plan_tick-returns : goal.plan_tick-returns
plan_tick-returns t c =
    let a = c.args in let C = parameters_of a.context.now in let G = given_of a.env.now in
    IfOk-weaker c.pays.result _ (λ made. ArePlans G (n.Tick a.nodes a.ticks (norm_of a.a.now)) C (ty_of a.ty.now) (made_of made.items))
    (λ made is. tick_is G a.nodes a.ticks (norm_of a.a.now) C (ty_of a.ty.now) (made_of c.in_ok-rests.rests.items) (made_of made.items) is c.in_ok-rests.ensures) c.pays.ensures

pub plan_share-returns : goal.plan_share-returns
plan_share-returns t c =
    let a = c.args in let C = parameters_of a.context.now in let G = given_of a.env.now in
    IfOk-weaker c.shares.result _ (λ made. ArePlans G (n.Share a.nodes a.x a.first a.second (norm_of a.a.now)) C (ty_of a.ty.now) (made_of made.items))
    (λ made is. shares_are G a.nodes a.x a.first a.second (norm_of a.a.now) C (parameters_of c.deref-2.result.now) (parameters_of c.deref.result.now) (ty_of a.ty.now) c.in_ok-change.change (context_of c.deref-3.result.now)
    (made_of c.in_ok-rests.rests.items) (made_of made.items) is (ap context_of c.deref-3.ensures.value ∙ c.in_ok-types.ensures)
    (ap parameters_of c.deref-2.ensures.value ∙ c.in_ok-next.ensures) (ap parameters_of c.deref.ensures.value ∙ c.in_ok-next.ensures) (λ d. c.in_ok-change.ensures d ∙ ap (λ N. step (types N) d (sharing (types C) (place a.x C) d)) c.in_ok-same.ensures) c.in_ok-rests.ensures) c.shares.ensures

pub bound_plans-returns : goal.bound_plans-returns
bound_plans-returns t c =
    let a = c.args in let C = parameters_of a.context.now in let G = all_down (given_of a.env.now) in
    IfOk-weaker c.shared.result _ (λ made. ArePlans G (norm_of a.a.now) C (ty_of a.ty.now) (map (λ r. plan_of (rc_value r)) made.items))
    (λ made is. subst (ArePlans G (norm_of a.a.now) C (ty_of a.ty.now)) (sym is)
    (subst (λ H. ArePlans H (norm_of a.a.now) C (ty_of a.ty.now) (made_of c.in_ok-firsts.firsts.items)) c.all_down-down.ensures.given c.in_ok-firsts.ensures)) c.shared.ensures

pub plan_let-returns : goal.plan_let-returns
plan_let-returns t c =
    let a = c.args in let C = parameters_of a.context.now in let G = given_of a.env.now in let A = ty_of a.bound.now in let T = ty_of a.ty.now in let e = norm_of a.a.now in
    let firsts = subst (λ l. ArePlans (all_down G) e (inners e C) A (map (λ r. plan_of (rc_value r)) l)) (sym c.deref-4.ensures.value)
    (subst (λ N. ArePlans (all_down G) e N A (map (λ r. plan_of (rc_value r)) c.in_ok-firsts.firsts.items)) (ap parameters_of c.deref-2.ensures.value ∙ c.in_ok-inner.ensures) c.in_ok-firsts.ensures) in
    let next = ap parameters_of c.deref-3.ensures.value ∙ c.in_ok-next.ensures ∙ ap (λ O. O ++ (a.x, A) ∷ []) (ap parameters_of c.deref.ensures.value ∙ c.in_ok-outer.ensures) in
    let rests = subst (λ N. ArePlans G (norm_of a.b.now) N T (made_of c.in_ok-rests.rests.items)) next c.in_ok-rests.ensures in
    IfOk-weaker c.lets.result _ (λ made. ArePlans G (n.Let a.nodes a.x A e (norm_of a.b.now)) C T (made_of made.items))
    (λ made is. lets_are G a.nodes a.x A e (norm_of a.b.now) C T c.in_ok-cut.cut (map (λ r. plan_of (rc_value r)) c.deref-4.result.now) (made_of c.in_ok-rests.rests.items) (made_of made.items) is c.in_ok-cut.ensures firsts rests)
    c.lets.ensures

pub plans-returns-in-Node : goal.plans-returns-in-Node
plans-returns-in-Node t c =
    let a = c.args in let C = parameters_of a.context.now in let G = given_of a.env.now in let T = ty_of a.ty.now in let k = a.expr.now.nodes in
    let same = node_is a.expr.now c.in-Node.x c.in-Node.y c.in-Node.z c.in-Node.is in
    IfOk-weaker c.constructors-in-Node.result _ (λ made. ArePlans G (norm_of a.expr.now) C T (made_of made.items))
    (λ made is. subst (λ e. ArePlans G e C T (made_of made.items)) (sym same) (plain G (λ d. p.Ends k 1 (part_steps C (c.in-Node.x ∷ c.in-Node.y ∷ c.in-Node.z ∷ []) T d)) (made_of made.items) is))
    c.constructors-in-Node.ensures

pub plans-returns-in-CaseList : goal.plans-returns-in-CaseList
plans-returns-in-CaseList t c =
    let a = c.args in let C = parameters_of a.context.now in let G = given_of a.env.now in let T = ty_of a.ty.now in
    let same = list_is a.expr.now c.in-CaseList.x c.in-CaseList.h c.in-CaseList.t c.in-CaseList.a c.in-CaseList.b c.deref-in-CaseList.result.now c.deref-in-CaseList-2.result.now c.in-CaseList.is c.deref-in-CaseList.ensures c.deref-in-CaseList-2.ensures in
    IfOk-weaker c.plan_case.result _ (λ made. ArePlans G (norm_of a.expr.now) C T (made_of made.items)) (λ made is. subst (λ e. ArePlans G e C T (made_of made.items)) (sym same) is) c.plan_case.ensures

pub plans-returns-in-CaseTree : goal.plans-returns-in-CaseTree
plans-returns-in-CaseTree t c =
    let a = c.args in let C = parameters_of a.context.now in let G = given_of a.env.now in let T = ty_of a.ty.now in
    let same = tree_is a.expr.now c.in-CaseTree.x c.in-CaseTree.e c.in-CaseTree.l c.in-CaseTree.r c.in-CaseTree.a c.in-CaseTree.b c.deref-in-CaseTree.result.now c.deref-in-CaseTree-2.result.now c.in-CaseTree.is c.deref-in-CaseTree.ensures c.deref-in-CaseTree-2.ensures in
    IfOk-weaker c.plan_case-in-CaseTree.result _ (λ made. ArePlans G (norm_of a.expr.now) C T (made_of made.items)) (λ made is. subst (λ e. ArePlans G e C T (made_of made.items)) (sym same) is) c.plan_case-in-CaseTree.ensures

pub plans-returns-in-CaseOption : goal.plans-returns-in-CaseOption
plans-returns-in-CaseOption t c =
    let a = c.args in let C = parameters_of a.context.now in let G = given_of a.env.now in let T = ty_of a.ty.now in
    let same = option_is a.expr.now c.in-CaseOption.x c.in-CaseOption.w c.in-CaseOption.a c.in-CaseOption.b c.deref-in-CaseOption.result.now c.deref-in-CaseOption-2.result.now c.in-CaseOption.is c.deref-in-CaseOption.ensures c.deref-in-CaseOption-2.ensures in
    IfOk-weaker c.plan_case-in-CaseOption.result _ (λ made. ArePlans G (norm_of a.expr.now) C T (made_of made.items)) (λ made is. subst (λ e. ArePlans G e C T (made_of made.items)) (sym same) is) c.plan_case-in-CaseOption.ensures
