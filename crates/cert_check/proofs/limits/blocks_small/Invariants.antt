use Rattle.std.proofs.Common.{drop}
use Rattle.annot_types.specs.Read.{blocks_of}
use Rattle.cert_check.specs.Limits.{BlocksSmall}
use Rattle.cert_check.proofs.limits.blocks_small.Given as goal

abbrev pub invariant-loop-block : goal.invariant-loop-block
invariant-loop-block l = BlocksSmall (blocks_of (drop l.block-index l.blocks)) → BlocksSmall (blocks_of l.blocks)
