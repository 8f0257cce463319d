use Rattle.raml_top.proofs.Bounding.{floors_give, floors_refused}
use Rattle.raml_top.proofs.runs.floors_call.Goals as goal

pub returns-in-Ok : goal.returns-in-Ok
returns-in-Ok c f vs is =
    floors_give c.args.typed.now c.args.verified.now.program c.args.verified.now.certificate c.requires.source c.args.call f vs is c.args.steps c.args.cells c.deref.result.now c.deref.ensures.value
    c.in-Ok.floors c.in-Ok.ensures.ok c.in-Ok.ensures.hold c.floored_run.result (c.floored_run.ensures f vs is)

pub returns-in-Err : goal.returns-in-Err
returns-in-Err c f vs is =
    floors_refused c.args.typed.now c.args.verified.now.program c.args.verified.now.certificate c.requires.source c.args.call f vs is c.args.steps c.args.cells c.deref.result.now c.deref.ensures.value
    c.in-Err.fault c.in-Err.ensures.err c.floor_refusal.result c.floor_refusal.ensures
