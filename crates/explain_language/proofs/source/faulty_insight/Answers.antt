use Rattle.std.proofs.lemmas.Result.{IfOk-weaker}
use Rattle.explain_faults.specs.Told.{IsToldFault}
use Rattle.explain_language.specs.Told.{IsFaulty}
use Rattle.explain_language.proofs.source.faulty_insight.Goals as goal

pub returns : goal.returns
returns c =
    let source = c.args.source.now in
    let fault = c.args.fault.now in
    IfOk-weaker c.fault_insight.result (IsToldFault source fault) (IsFaulty source)
    (λ insight told. record { fault = fault; first = c.requires; told = told }) c.fault_insight.ensures
