use Rattle.std.proofs.Common.{◌≡◌, ◌++◌, drop, map}
use Rattle.std.specs.Prelude.{slice_get}
use Rattle.call_groups.specs.Read.{ids_of}
use Rattle.rules_plan.specs.Read.{program_in}
use Rattle.cert_check.specs.Sizes.{fun_sizes}
use Rattle.cert_check.proofs.sizes.sizes.Given as goal

abbrev pub invariant-loop-fun : goal.invariant-loop-fun
invariant-loop-fun l =
    l.made.items ++ map (λ f. fun_sizes l.d (slice_get (program_in l.program).funs f)) (ids_of (drop l.fun-index l.functions))
    ≡ map (λ f. fun_sizes l.d (slice_get (program_in l.program).funs f)) (ids_of l.functions)
