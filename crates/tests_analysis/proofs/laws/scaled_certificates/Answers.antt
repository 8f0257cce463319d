use Rattle.tests_analysis.proofs.ScaledHeld.{scales_are_paid}
use Rattle.tests_analysis.proofs.laws.scaled_certificates.Goals as goal

pub returns : goal.returns
returns c = scales_are_paid
