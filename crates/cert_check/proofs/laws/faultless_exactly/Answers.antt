use Rattle.cert_check.proofs.Exactly.{faultless_exactly}
use Rattle.cert_check.proofs.laws.faultless_exactly.Goals as goal

pub returns : goal.returns
returns c = faultless_exactly
