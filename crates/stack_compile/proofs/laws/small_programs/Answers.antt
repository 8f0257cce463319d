use Rattle.stack_compile.proofs.Computed.{examples_hold}
use Rattle.stack_compile.proofs.laws.small_programs.Goals as goal

pub returns : goal.returns
returns c = examples_hold
