use Rattle.std.proofs.Common.{◌≡◌, ◌++◌, map, drop}
use Rattle.annot_types.specs.Certificate.{outcome}
use Rattle.annot_types.specs.Read.{blocks_of}
use Rattle.cost_free.specs.Read.{outcomes_of}
use Rattle.explain_verify.proofs.outline.outcomes.Given as goal

-- the outcomes so far, and those of the blocks that are left
abbrev pub invariant-loop-block : goal.invariant-loop-block
invariant-loop-block l = outcomes_of l.done.items ++ map outcome (blocks_of (drop l.block-index l.blocks)) ≡ map outcome (blocks_of l.blocks)
