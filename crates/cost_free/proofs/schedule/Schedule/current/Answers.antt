use Rattle.std.proofs.Common.{◌≡◌, subst, sym, ◌∙◌}
use Rattle.std.specs.Prelude.{IfOk, OnOk}
use Rattle.std.specs.Option.{option_map}
use Rattle.cost_free.specs.Refused.{Course, plan_in, next_in, IsRefused}
use Rattle.cost_free.specs.Walk.{MayEnter, advanced, first}
use Rattle.cost_free.specs.Read.{task_of, plan_of, outcomes_of, place_of}
use Rattle.cost_free.proofs.Course.{stands_on, stands_passed, tells_next, is_not_refused, is_refused}
use Rattle.cost_free.proofs.Results.{both_ok, on_ok, either_way}
use Rattle.cost_free.proofs.schedule.Schedule.current.Goals as goal

pub invariant_of-self : goal.invariant_of-self
invariant_of-self c =
    let plan = plan_of c.self.inside.plan in
    let done = outcomes_of c.self.inside.done.items in
    let before = place_of c.self.inside.walk in
    let after = place_of c.advance.new.walk in
    either_way c.advance.result _ _ _ _ c.advance.ensures.place c.advance.ensures.few c.advance.ensures.kept
    (λ is few. stands_on plan done before after c.self.invariant is few) (λ is. stands_passed plan done before after c.self.invariant is)

pub returns-clause-next : goal.returns-clause-next
returns-clause-next c =
    let plan = plan_of c.self.inside.plan in
    let done = outcomes_of c.self.inside.done.items in
    let before = place_of c.self.inside.walk in
    let after = place_of c.advance.new.walk in
    subst (λ (v : Course). IfOk c.advance.result (λ task. option_map task_of task ≡ next_in (plan_in v) v.done)) c.self.view_is
    (both_ok c.advance.result (λ task. option_map task_of task ≡ first after.left) (after ≡ advanced plan before) (λ task. option_map task_of task ≡ next_in plan done) c.advance.ensures.next c.advance.ensures.place
    (λ task is place. is ∙ sym (tells_next plan done before after c.self.invariant.come place)))

pub returns-clause-fits : goal.returns-clause-fits
returns-clause-fits c =
    let plan = plan_of c.self.inside.plan in
    let done = outcomes_of c.self.inside.done.items in
    let before = place_of c.self.inside.walk in
    subst (λ (v : Course). OnOk c.advance.result (IsRefused 2000 (plan_in v) v.done → ⊥)) c.self.view_is
    (on_ok c.advance.result (MayEnter 2000 plan before) (IsRefused 2000 plan done → ⊥) c.advance.ensures.few (λ few. is_not_refused plan done before c.self.invariant few))

pub returns-clause-many : goal.returns-clause-many
returns-clause-many c =
    let plan = plan_of c.self.inside.plan in
    let done = outcomes_of c.self.inside.done.items in
    let before = place_of c.self.inside.walk in
    λ is. subst (λ (v : Course). IsRefused 2000 (plan_in v) v.done) c.self.view_is (is_refused plan done before c.self.invariant (c.advance.ensures.many is))
