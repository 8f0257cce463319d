use Rattle.std.proofs.Common.{◌<◌, ◌≤◌, [], length, subst, sym, rules}
use Rattle.rules_plan.specs.Given.{given_of}
use Rattle.rules_plan.specs.Read.{AreBodies}
use Rattle.rules_plan.proofs.Grouped.{no_bodies, bodies_step, bodies_all, none}
use Rattle.rules_plan.proofs.body.bodies_of.Goals as goal

pub loop-place-init : goal.loop-place-init
loop-place-init c = subst (AreBodies (given_of c.args.env.now) []) (sym c.new-made.ensures.items) (no_bodies (given_of c.args.env.now))

pub loop-place-preserved : goal.loop-place-preserved
loop-place-preserved c =
    let group = c.args.env.now.group.now in
    let below : c.loop-place.place < length group = search rules in
    bodies_step (given_of c.args.env.now) group c.loop-place.place none c.in_ok-body_at.field-0 c.loop-place.made.items c.push.new.self.items below
    c.in_ok-push.ensures.items c.loop-place.invariant c.in_ok-body_at.ensures

pub returns : goal.returns
returns c =
    let group = c.args.env.now.group.now in
    let high : length group ≤ c.loop-place.place = search rules in
    bodies_all (given_of c.args.env.now) group c.loop-place.place c.loop-place.made.items high c.loop-place.invariant
