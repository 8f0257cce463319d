use Rattle.std.proofs.Common.{◌≡◌, ◌++◌, ◌∷◌, [], List, Err, ap, sym, subst, ◌∙◌}
use Rattle.std.specs.Option.{option_map}
use Rattle.std.proofs.lemmas.List.{map-append}
use Rattle.cost_free.specs.declared.task.Task.{Task}
use Rattle.cost_free.specs.declared.task.Done.{Done}
use Rattle.cost_free.specs.Task.{Outcome}
use Rattle.cost_free.specs.Refused.{with_outcome}
use Rattle.cost_free.specs.Walk.{Stands}
use Rattle.cost_free.specs.Read.{task_of, outcome_of, outcomes_of, plan_of, place_of}
use Rattle.cost_free.proofs.Course.{stands_on, stands_passed, stands_taken, stands_still, tells_next, is_not_refused, is_refused}
use Rattle.cost_free.proofs.Results.{of_error}
use Rattle.cost_free.proofs.schedule.put.Goals as goal

pub returns-in_err-advance-clause-stands : goal.returns-in_err-advance-clause-stands
returns-in_err-advance-clause-stands c =
    stands_passed (plan_of c.args.plan) (outcomes_of c.args.done.now.items) (place_of c.args.walk.now) (place_of c.advance.new.walk) c.requires c.in_err-advance.ensures.kept

pub returns-in_err-advance-clause-many : goal.returns-in_err-advance-clause-many
returns-in_err-advance-clause-many c = λ e.
    let fault = of_error _ _ _ c.from_residual.ensures.1 e in
    is_refused (plan_of c.args.plan) (outcomes_of c.args.done.now.items) (place_of c.args.walk.now) c.requires (c.advance.ensures.many (c.in_err-advance.was ∙ ap Err fault))

pub returns-in_err-append-in-Some-clause-stands : goal.returns-in_err-append-in-Some-clause-stands
returns-in_err-append-in-Some-clause-stands c =
    let plan = plan_of c.args.plan in
    let done = outcomes_of c.args.done.now.items in
    let after = place_of c.append.new.walk in
    let on = stands_on plan done (place_of c.args.walk.now) (place_of c.advance.new.walk) c.requires c.in_ok-advance.ensures.place c.in_ok-advance.ensures.few in
    subst (λ (d : List (Task × Done)). Stands plan (outcomes_of d) after) (sym c.in_err-append-in-Some.ensures.kept)
    (stands_still plan done (place_of c.advance.new.walk) after on c.in_err-append-in-Some.ensures.stays)

pub returns-in-None-clause-stands : goal.returns-in-None-clause-stands
returns-in-None-clause-stands c =
    stands_on (plan_of c.args.plan) (outcomes_of c.args.done.now.items) (place_of c.args.walk.now) (place_of c.advance.new.walk) c.requires c.in_ok-advance.ensures.place c.in_ok-advance.ensures.few

pub returns-in-None-clause-done : goal.returns-in-None-clause-done
returns-in-None-clause-done c =
    let plan = plan_of c.args.plan in
    let done = outcomes_of c.args.done.now.items in
    let next = tells_next plan done (place_of c.args.walk.now) (place_of c.advance.new.walk) c.requires.come c.in_ok-advance.ensures.place in
    ap (λ t. with_outcome c.args.outcome t done) (sym (next ∙ sym c.in_ok-advance.ensures.next ∙ ap (option_map task_of) c.in-None.is))

pub returns-in-None-clause-fits : goal.returns-in-None-clause-fits
returns-in-None-clause-fits c = is_not_refused (plan_of c.args.plan) (outcomes_of c.args.done.now.items) (place_of c.args.walk.now) c.requires c.in_ok-advance.ensures.few

appended : (done new : List (Task × Done)) (e : Task × Done) → new ≡ done ++ e ∷ [] → outcomes_of new ≡ outcomes_of done ++ outcome_of e ∷ []
appended done new e is = ap outcomes_of is ∙ map-append outcome_of done (e ∷ [])

pub returns-in_ok-append-in-Some-clause-stands : goal.returns-in_ok-append-in-Some-clause-stands
returns-in_ok-append-in-Some-clause-stands c =
    let plan = plan_of c.args.plan in
    let done = outcomes_of c.args.done.now.items in
    let after = place_of c.append.new.walk in
    let entry : Task × Done = (c.in-Some.task, c.args.outcome) in
    let some = sym (ap (option_map task_of) c.in-Some.is) ∙ c.in_ok-advance.ensures.next in
    subst (λ (d : List Outcome). Stands plan d after) (sym (appended c.args.done.now.items c.append.new.done.items entry c.in_ok-append-in-Some.ensures.done))
    (stands_taken plan done (place_of c.args.walk.now) (place_of c.advance.new.walk) after (task_of c.in-Some.task) (outcome_of entry) c.requires.come c.in_ok-advance.ensures.place some c.in_ok-append-in-Some.ensures.taken)

pub returns-in_ok-append-in-Some-clause-done : goal.returns-in_ok-append-in-Some-clause-done
returns-in_ok-append-in-Some-clause-done c =
    let plan = plan_of c.args.plan in
    let done = outcomes_of c.args.done.now.items in
    let entry : Task × Done = (c.in-Some.task, c.args.outcome) in
    let next = tells_next plan done (place_of c.args.walk.now) (place_of c.advance.new.walk) c.requires.come c.in_ok-advance.ensures.place in
    appended c.args.done.now.items c.append.new.done.items entry c.in_ok-append-in-Some.ensures.done
    ∙ ap (λ t. with_outcome c.args.outcome t done) (sym (next ∙ sym c.in_ok-advance.ensures.next ∙ ap (option_map task_of) c.in-Some.is))

pub returns-in_ok-append-in-Some-clause-fits : goal.returns-in_ok-append-in-Some-clause-fits
returns-in_ok-append-in-Some-clause-fits c = is_not_refused (plan_of c.args.plan) (outcomes_of c.args.done.now.items) (place_of c.args.walk.now) c.requires c.in_ok-advance.ensures.few
