use Rattle.std.proofs.Common.{◌≡◌, map, take}
use Rattle.std.specs.Prelude.{slice_get}
use Rattle.call_groups.specs.Read.{ids_of}
use Rattle.rules_plan.specs.Read.{program_in}
use Rattle.bound_infer.specs.Sized.{sizes_in}
use Rattle.bound_infer.proofs.sizes.sizes.Given as goal

abbrev pub invariant-loop-place : goal.invariant-loop-place
invariant-loop-place l = l.made.items ≡ map (λ f. sizes_in l.budget (slice_get (program_in l.program).funs f)) (ids_of (take l.place l.funs))
