use Rattle.std.proofs.Common.{◌≡◌, ◌++◌, map, drop}
use Rattle.rules_walk.specs.Filled.{table_of}
use Rattle.rules_plan.specs.Read.{over_of, body_of}
use Rattle.rules_plan.proofs.body.over.Given as goal

abbrev pub invariant-loop-function : goal.invariant-loop-function
invariant-loop-function l =
    map body_of l.made.items ++ map (over_of (table_of l.uses) l.budget) (drop l.function-index l.functions) ≡ map (over_of (table_of l.uses) l.budget) l.functions
