use Rattle.std.proofs.Common.{◌≡◌, ℕ, Bool, List, subst, sym, ◌∙◌}
use Rattle.std.specs.Prelude.{IfOk, OnOk}
use Rattle.std.specs.Option.{option_map}
use Rattle.base_poly.specs.Read.{context_of}
use Rattle.raml_syntax.specs.declared.ty.Ty.{Ty}
use Rattle.cost_free.specs.declared.plan.Plan as code
use Rattle.cost_free.specs.Refused.{Plan, next_in, IsRefused}
use Rattle.cost_free.specs.Walk.{MayEnter, advanced, first}
use Rattle.cost_free.specs.Read.{task_of, lists_of, plan_of, outcomes_of, place_of}
use Rattle.cost_free.proofs.Course.{tells_next, is_not_refused, is_refused}
use Rattle.cost_free.proofs.Results.{both_ok, on_ok}
use Rattle.cost_free.proofs.schedule.next.Goals as goal

same_plan : (p : code.Plan) (results : List Ty) (groups : List (List ℕ)) (d : ℕ) (work : Bool) → p.results.now ≡ results → lists_of p.groups.now ≡ groups → p.degree ≡ d → p.work ≡ work →
    ◌≡◌ {A = Plan} (plan_of p) (record { results = context_of results; groups = groups; degree = d; work = work })
same_plan p results groups d work r g e w = λ i. record { results = context_of (r i); groups = g i; degree = e i; work = w i }

pub returns-then-branch-clause-next : goal.returns-then-branch-clause-next
returns-then-branch-clause-next c =
    let plan = plan_of c.plan-plan.result in
    let same = same_plan c.plan-plan.result _ _ _ _ c.plan-plan.ensures.results c.plan-plan.ensures.groups c.plan-plan.ensures.degree c.plan-plan.ensures.work in
    let done = outcomes_of c.args.done.now in
    let before = place_of c.follow.new.walk in
    let after = place_of c.advance.new.walk in
    let stands = c.in_ok-follow.ensures.stands c.if-branch.true in
    subst (λ (p : Plan). IfOk c.advance.result (λ task. option_map task_of task ≡ next_in p done)) same
    (both_ok c.advance.result (λ task. option_map task_of task ≡ first after.left) (after ≡ advanced plan before) (λ task. option_map task_of task ≡ next_in plan done) c.advance.ensures.next c.advance.ensures.place
    (λ task is place. is ∙ sym (tells_next plan done before after stands.come place)))

pub returns-then-branch-clause-fits : goal.returns-then-branch-clause-fits
returns-then-branch-clause-fits c =
    let plan = plan_of c.plan-plan.result in
    let same = same_plan c.plan-plan.result _ _ _ _ c.plan-plan.ensures.results c.plan-plan.ensures.groups c.plan-plan.ensures.degree c.plan-plan.ensures.work in
    let done = outcomes_of c.args.done.now in
    let before = place_of c.follow.new.walk in
    let stands = c.in_ok-follow.ensures.stands c.if-branch.true in
    subst (λ (p : Plan). OnOk c.advance.result (IsRefused 2000 p done → ⊥)) same
    (on_ok c.advance.result (MayEnter 2000 plan before) (IsRefused 2000 plan done → ⊥) c.advance.ensures.few (λ few. is_not_refused plan done before stands few))

pub returns-then-branch-clause-many : goal.returns-then-branch-clause-many
returns-then-branch-clause-many c =
    let plan = plan_of c.plan-plan.result in
    let same = same_plan c.plan-plan.result _ _ _ _ c.plan-plan.ensures.results c.plan-plan.ensures.groups c.plan-plan.ensures.degree c.plan-plan.ensures.work in
    let done = outcomes_of c.args.done.now in
    let before = place_of c.follow.new.walk in
    let stands = c.in_ok-follow.ensures.stands c.if-branch.true in
    λ is. subst (λ (p : Plan). IsRefused 2000 p done) same (is_refused plan done before stands (c.advance.ensures.many is))
