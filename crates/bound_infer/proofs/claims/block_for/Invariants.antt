use Rattle.std.proofs.Common.{◌≡◌, drop, filter}
use Rattle.annot_types.specs.Held.{is_for_function}
use Rattle.annot_types.specs.Read.{blocks_of}
use Rattle.rules_plan.specs.Read.{program_in}
use Rattle.bound_infer.proofs.claims.block_for.Given as goal

-- what is found from here on is found in all
abbrev pub invariant-loop-block : goal.invariant-loop-block
invariant-loop-block l =
    filter (is_for_function (program_in l.program) l.meter l.fun.0) (blocks_of (drop l.block-index l.block-items))
    ≡ filter (is_for_function (program_in l.program) l.meter l.fun.0) (blocks_of l.block-items)
