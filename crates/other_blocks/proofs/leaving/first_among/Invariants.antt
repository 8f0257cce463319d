use Rattle.std.proofs.Common.{◌≡◌, ◌+◌, drop}
use Rattle.std.specs.Option.{option_map}
use Rattle.annot_types.specs.Read.{blocks_of}
use Rattle.other_blocks.specs.Leaving.{first_leaving}
use Rattle.other_blocks.proofs.leaving.first_among.Given as goal

abbrev pub invariant-loop-place : goal.invariant-loop-place
invariant-loop-place l =
    option_map (λ n. n + l.place) (first_leaving l.meter l.factor l.scale_fits (blocks_of (drop l.place l.blocks))) ≡ first_leaving l.meter l.factor l.scale_fits (blocks_of l.blocks)
