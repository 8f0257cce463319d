use Rattle.std.proofs.Common.{◌<◌, ◌≤◌, length, slice_get, rules}
use Rattle.normal_spec.specs.Read.{funs_of}
use Rattle.rules_plan.specs.Within.{FunctionWithin}
use Rattle.rules_plan.proofs.Grouped.{checked_step, checked_all, checked_at, none}
use Rattle.rules_plan.proofs.body.check_all.Goals as goal

pub loop-place-preserved : goal.loop-place-preserved
loop-place-preserved c =
    let a = c.args in
    let below : c.loop-place.place < length a.group.now = search rules in
    checked_step (λ f. FunctionWithin 2000 (slice_get (funs_of a.results.now a.functions.now) f) a.budget) a.group.now c.loop-place.place none below c.loop-place.invariant c.in_ok-check_function.ensures.fits

pub returns-in_err-check_function-clause-many : goal.returns-in_err-check_function-clause-many
returns-in_err-check_function-clause-many c e all =
    let a = c.args in
    let below : c.loop-place.place < length a.group.now = search rules in
    let one = checked_at (λ f. FunctionWithin 2000 (slice_get (funs_of a.results.now a.functions.now) f) a.budget) a.group.now c.loop-place.place none below all in
    search (rules, one, e)

pub returns-clause-fits : goal.returns-clause-fits
returns-clause-fits c =
    let a = c.args in
    let high : length a.group.now ≤ c.loop-place.place = search rules in
    checked_all (λ f. FunctionWithin 2000 (slice_get (funs_of a.results.now a.functions.now) f) a.budget) a.group.now c.loop-place.place high c.loop-place.invariant
