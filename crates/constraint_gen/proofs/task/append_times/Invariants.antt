use Rattle.std.proofs.Common.{◌≡◌, ◌++◌}
use Rattle.std.specs.Prelude.{replicate}
use Rattle.constraint_gen.proofs.task.append_times.Given as goal

abbrev pub invariant-loop : goal.invariant-loop
invariant-loop l = l.weights.items ≡ l.fn.weights.items ++ replicate l.counter l.number
