use Rattle.std.proofs.Common.{◌≡◌, ◌++◌, drop, map}
use Rattle.rules_plan.specs.Read.{function_of}
use Rattle.cert_check.specs.At.{sizes_of}
use Rattle.bound_infer.proofs.solved.sizes.Given as goal

abbrev pub invariant-loop-function : goal.invariant-loop-function
invariant-loop-function l = l.sizes.items ++ sizes_of (map function_of (drop l.function-index l.functions)) ≡ sizes_of (map function_of l.functions)
