use Rattle.annot_types.proofs.Computed.{examples_hold}
use Rattle.annot_types.proofs.laws.small_certificates.Goals as goal

pub returns : goal.returns
returns c = examples_hold
