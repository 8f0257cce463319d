use Rattle.cert_check.proofs.Faultless.{no_fault_is_held}
use Rattle.cert_check.proofs.laws.no_fault_is_held.Goals as goal

pub returns : goal.returns
returns c = no_fault_is_held
