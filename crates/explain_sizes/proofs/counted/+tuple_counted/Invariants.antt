use Rattle.std.proofs.Common.{length}
use Rattle.explain_sizes.proofs.counted.+tuple_counted.Given as goal

abbrev pub decreases-tuple_counted : goal.decreases-tuple_counted
decreases-tuple_counted l = length l.indices.now
