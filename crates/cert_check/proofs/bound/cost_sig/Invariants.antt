use Rattle.std.proofs.Common.{◌≡◌, drop}
use Rattle.annot_types.specs.Signature.{cost_sig}
use Rattle.annot_types.specs.Read.{blocks_of}
use Rattle.rules_plan.specs.Read.{program_in}
use Rattle.cert_check.proofs.bound.cost_sig.Given as goal

abbrev pub invariant-loop-block : goal.invariant-loop-block
invariant-loop-block l =
    cost_sig (program_in l.program) l.meter (blocks_of (drop l.block-index l.blocks)) l.fun.0 ≡ cost_sig (program_in l.program) l.meter (blocks_of l.blocks) l.fun.0
