use Rattle.value_text.specs.State.{goal_of}
use Rattle.value_text.proofs.Turning.{token_turned, shape_fails, deep_fails, none_fails}
use Rattle.value_text.proofs.States.{grows_none}
use Rattle.value_text.proofs.taking.turn_token.Goals as goal

pub returns-in-None : goal.returns-in-None
returns-in-None c = record { turned = tt; fails = none_fails (goal_of c.args.goal) _ _ c.args.text.now c.requires.token c.in-None.ensures; below = tt; count = tt; grows = grows_none c.args.heap.now.cells }

pub returns-in-Fits : goal.returns-in-Fits
returns-in-Fits c = record { turned = token_turned (goal_of c.args.goal) c.in-Some.token c.in-Some.left _ _ _ _ c.args.text.now c.in-Some.rest.now _ c.in-Fits.is c.in-Some.ensures c.in_ok-take-in-Some.ensures.taken; fails = tt; below = c.in_ok-take-in-Some.ensures.below; count = c.in_ok-take-in-Some.ensures.count c.in-Fits.is; grows = c.in_ok-take-in-Some.ensures.grows }

pub returns-in-TooDeep : goal.returns-in-TooDeep
returns-in-TooDeep c = record { turned = tt; fails = deep_fails (goal_of c.args.goal) c.in-Some.token c.in-Some.left _ _ _ _ c.args.text.now c.in-Some.rest.now _ c.in-TooDeep.is c.in-Some.ensures c.in_ok-take-in-Some.ensures.taken; below = tt; count = tt; grows = c.in_ok-take-in-Some.ensures.grows }

pub returns-in-Shape : goal.returns-in-Shape
returns-in-Shape c = record { turned = tt; fails = shape_fails (goal_of c.args.goal) c.in-Some.token c.in-Some.left _ _ _ _ c.args.text.now c.in-Some.rest.now _ c.in-Shape.is c.in-Some.ensures c.in_ok-take-in-Some.ensures.taken; below = tt; count = tt; grows = c.in_ok-take-in-Some.ensures.grows }
