use Rattle.share_normal.specs.Program.{source_in}
use Rattle.rules_plan.specs.Read.{program_in}
use Rattle.explain_degrees.proofs.Found.{none_given_up}
use Rattle.explain_degrees.proofs.least.least_bounds.Goals as goal

pub returns : goal.returns
returns c =
    let within = c.in_ok-within.within in
    none_given_up (source_in c.args.program.now) (program_in c.args.program.now) c.args.most within.found within.given_up c.in_ok-within.ensures
