use Rattle.rules_spec.proofs.Refuted.{refuted_stay_refuted}
use Rattle.rules_spec.proofs.laws.refuted_stay_refuted.Goals as goal

pub returns : goal.returns
returns c = refuted_stay_refuted
