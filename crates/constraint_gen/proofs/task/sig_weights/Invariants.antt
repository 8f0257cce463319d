use Rattle.std.proofs.Common.{◌≡◌, ◌++◌, drop}
use Rattle.annot_types.specs.System.{sig_weights}
use Rattle.cost_free.specs.Read.{ids_of}
use Rattle.rules_plan.specs.Read.{program_in}
use Rattle.constraint_gen.proofs.task.sig_weights.Given as goal

abbrev pub invariant-loop-fun : goal.invariant-loop-fun
invariant-loop-fun l =
    l.weights.items ++ sig_weights (program_in l.program) l.budget (ids_of (drop l.fun-index l.functions)) ≡ sig_weights (program_in l.program) l.budget (ids_of l.functions)
