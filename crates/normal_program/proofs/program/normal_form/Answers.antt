use Rattle.normal_program.proofs.Normal.{kept_normal}
use Rattle.normal_program.proofs.program.normal_form.Goals as goal

pub returns-clause-normal : goal.returns-clause-normal
returns-clause-normal c = kept_normal c.in_ok-program.program c.args.typed.now c.in_ok-program.ensures.source c.functions-functions.ensures.norm
