use Rattle.bound_infer.specs.Keeping.{analysis_in}
use Rattle.bound_infer.proofs.Budgets.{never_given_up}
use Rattle.bound_infer.proofs.inference.infer.Goals as goal

pub unreachable-requires : goal.unreachable-requires
unreachable-requires g c =
    let one = c.requires.answers in
    let given_up = rw c.in-None.is at c.in_ok-verified.ensures.given_up in
    never_given_up (analysis_in c.args.program.now c.args.d one.pick) (given_up one.pick one.answers)
