use Rattle.std.proofs.Common.{drop}
use Rattle.cost_free.specs.Read.{ids_of}
use Rattle.constraint_gen.proofs.Functions.{From}
use Rattle.constraint_gen.proofs.task.place_in.Given as goal

abbrev pub invariant-loop-place : goal.invariant-loop-place
invariant-loop-place l = From (ids_of l.functions) l.fun.0 l.place (ids_of (drop l.place l.functions))
