use Rattle.std.proofs.Common.{◌≡◌, ◌+◌, ◌-◌, ◌++◌, map}
use Rattle.base_poly.specs.Indices.{index_list}
use Rattle.base_poly.specs.Read.{context_of}
use Rattle.constraint_gen.specs.Weights.{weight_of}
use Rattle.constraint_gen.proofs.Weighing.{weights_from}
use Rattle.constraint_gen.proofs.task.append_weights.Given as goal

abbrev pub invariant-loop-degree : goal.invariant-loop-degree
invariant-loop-degree l =
    l.weights.items ++ weights_from (context_of l.types) ((1 + l.budget) - l.degree) l.degree
    ≡ l.fn.weights.items ++ map weight_of (index_list (context_of l.types) l.budget)
