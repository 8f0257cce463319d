use Rattle.std.proofs.Common.{ap}
use Rattle.cert_check.specs.Read.{fault_of}
use Rattle.bound_infer.proofs.ending.check_fault.Goals as goal

pub unreachable-requires : goal.unreachable-requires
unreachable-requires c = c.requires _ (ap fault_of c.in-Shape.is)

pub unreachable-requires-in-Fails : goal.unreachable-requires-in-Fails
unreachable-requires-in-Fails c = c.requires _ (ap fault_of c.in-Fails.is)

pub unreachable-requires-in-TooLarge : goal.unreachable-requires-in-TooLarge
unreachable-requires-in-TooLarge c = c.requires _ (ap fault_of c.in-TooLarge.is)
