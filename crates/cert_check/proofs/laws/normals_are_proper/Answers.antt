use Rattle.cert_check.proofs.Proper.{normals_are_proper}
use Rattle.cert_check.proofs.laws.normals_are_proper.Goals as goal

pub returns : goal.returns
returns c = normals_are_proper
