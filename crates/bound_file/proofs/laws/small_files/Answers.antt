use Rattle.bound_file.proofs.Computed.{examples_hold}
use Rattle.bound_file.proofs.laws.small_files.Goals as goal

pub returns : goal.returns
returns c = examples_hold
