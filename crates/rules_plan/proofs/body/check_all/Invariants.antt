use Rattle.std.proofs.Common.{take}
use Rattle.std.specs.List.{All}
use Rattle.std.specs.Prelude.{slice_get}
use Rattle.call_groups.specs.Read.{ids_of}
use Rattle.normal_spec.specs.Read.{funs_of}
use Rattle.rules_plan.specs.Within.{FunctionWithin}
use Rattle.rules_plan.proofs.body.check_all.Given as goal

abbrev pub invariant-loop-place : goal.invariant-loop-place
invariant-loop-place l = All (λ f. FunctionWithin 2000 (slice_get (funs_of l.results l.functions) f) l.budget) (ids_of (take l.place l.group))
