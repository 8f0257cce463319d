use Rattle.explain_origins.proofs.Forms.{bound_there, bound_none}
use Rattle.explain_origins.proofs.spot.bound_at.Goals as goal

pub returns-in-Some : goal.returns-in-Some
returns-in-Some c =
    let look = c.in-Some.ensures.lookup in
    bound_there c.args.plans.now c.args.place c.in-Some.plan.now c.deref.result.now look.3.0 look.1 c.deref.ensures

pub returns-in-None : goal.returns-in-None
returns-in-None c = bound_none c.args.plans.now c.args.place c.in-None.ensures.lookup.3
