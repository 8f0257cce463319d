use Rattle.rules_plan.specs.Read.{program_in}
use Rattle.cert_check.proofs.Telling.{some_more}
use Rattle.bound_infer.proofs.step.tried.Goals as goal

pub planned-requires-clause-last : goal.planned-requires-clause-last
planned-requires-clause-last g c = some_more c.take-last.result _ _ (λ made are. are (program_in c.args.program.now) c.requires.kept) c.take-last.ensures.taken

pub returns-in-Err-clause-stops : goal.returns-in-Err-clause-stops
returns-in-Err-clause-stops g c = λ pick by. c.in-Err.ensures.fault pick

pub returns-in-Ok-keep-clause-kept : goal.returns-in-Ok-keep-clause-kept
returns-in-Ok-keep-clause-kept g c =
    let P = program_in c.args.program.now in
    c.in-Ok-keep.ensures P (c.take-last.ensures.left P c.requires.kept) c.in-Ok.ensures.plans.are
