use Rattle.std.proofs.Common.{◌≡◌}
use Rattle.constraint_gen.specs.Finished.{present}
use Rattle.constraint_gen.proofs.finish.present.Given as goal

abbrev pub invariant-loop-row : goal.invariant-loop-row
invariant-loop-row l = l.all.items ≡ present l.yielded
