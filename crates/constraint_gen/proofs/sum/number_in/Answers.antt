use Rattle.constraint_gen.proofs.Sums.{number_there, number_in_gap}
use Rattle.constraint_gen.proofs.sum.number_in.Goals as goal

pub returns-in-Ok : goal.returns-in-Ok
returns-in-Ok c = number_there c.args.terms.now c.requires.sum c.args.unknown c.in-Ok.place c.in-Ok.ensures.found

pub returns-in-Err : goal.returns-in-Err
returns-in-Err c = number_in_gap c.args.terms.now c.requires.sum c.args.unknown c.in-Err.field-0 c.in-Err.ensures.absent
