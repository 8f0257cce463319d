use Rattle.std.proofs.Common.{map, drop}
use Rattle.rules_plan.specs.Read.{function_of}
use Rattle.rules_spec.specs.Small.{GrowthsWithin}
use Rattle.cert_check.specs.Limits.{factor, greatest}
use Rattle.cert_check.proofs.limits.functions_stay.Given as goal

abbrev pub invariant-loop-function : goal.invariant-loop-function
invariant-loop-function l = GrowthsWithin factor greatest (map function_of (drop l.function-index l.functions)) → GrowthsWithin factor greatest (map function_of l.functions)
