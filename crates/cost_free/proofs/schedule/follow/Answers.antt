use Rattle.std.proofs.Common.{◌≡◌, ◌<◌, ◌+◌, ◌++◌, ◌∷◌, [], ℕ, List, take, drop, length, slice_index_or, ap, sym, subst, ◌∙◌}
use Rattle.std.specs.Option.{option_map}
use Rattle.std.proofs.lemmas.List.{map-append, take_more, take-append-drop}
use Rattle.cost_free.specs.declared.task.Task.{Task}
use Rattle.cost_free.specs.declared.task.Done.{Done}
use Rattle.cost_free.specs.Task.{Outcome}
use Rattle.cost_free.specs.Refused.{next_in}
use Rattle.cost_free.specs.Walk.{Stands}
use Rattle.cost_free.specs.Read.{task_of, outcome_of, outcomes_of, plan_of, place_of}
use Rattle.cost_free.proofs.Course.{stands_taken, ends_before}
use Rattle.cost_free.proofs.schedule.follow.Goals as goal

all_of : (done : List (Task × Done)) (k : ℕ) → outcomes_of (take k done) ++ outcomes_of (drop k done) ≡ outcomes_of done
all_of done k = sym (map-append outcome_of (take k done) (drop k done)) ∙ ap outcomes_of (take-append-drop k done)

one_more : (done : List (Task × Done)) (k : ℕ) (d : Task × Done) → k < length done → outcomes_of (take (k + 1) done) ≡ outcomes_of (take k done) ++ outcome_of (slice_index_or done k d) ∷ []
one_more done k d low = ap outcomes_of (take_more done k d low) ∙ map-append outcome_of (take k done) (slice_index_or done k d ∷ [])

pub returns-in-None-clause-ended : goal.returns-in-None-clause-ended
returns-in-None-clause-ended c =
    let plan = plan_of c.args.plan in
    let k = c.loop-entry.entry-index in
    let none = sym (ap (option_map task_of) c.in-None.is) ∙ c.in_ok-reach.ensures.next in
    λ off. ap (next_in plan) (sym (all_of c.args.done.now k))
    ∙ ends_before plan (outcomes_of (take k c.args.done.now)) (place_of c.loop-entry.walk) (place_of c.reach.new.walk) (outcomes_of (drop k c.args.done.now)) c.loop-entry.invariant.come c.in_ok-reach.ensures.place none

pub loop-entry-preserved : goal.loop-entry-preserved
loop-entry-preserved c =
    let plan = plan_of c.args.plan in
    let k = c.loop-entry.entry-index in
    let after = place_of c.take.new.walk in
    let some = sym (ap (option_map task_of) c.in-Some.is) ∙ c.in_ok-reach.ensures.next in
    subst (λ (d : List Outcome). Stands plan d after) (sym (one_more c.args.done.now k _ c.loop-entry-test.true))
    (stands_taken plan (outcomes_of (take k c.args.done.now)) (place_of c.loop-entry.walk) (place_of c.reach.new.walk) after (task_of c.in-Some.field-0) _ c.loop-entry.invariant.come
    c.in_ok-reach.ensures.place some c.in_ok-take-in-Some.ensures.taken)
