use Rattle.std.proofs.Common.{◌≡◌, ◌+◌, drop}
use Rattle.std.specs.Option.{option_map}
use Rattle.cost_free.specs.Read.{task_of}
use Rattle.annot_types.specs.Read.{blocks_of}
use Rattle.other_blocks.specs.Other.{place_among}
use Rattle.other_blocks.proofs.place.place_of.Given as goal

abbrev pub invariant-loop-place : goal.invariant-loop-place
invariant-loop-place l =
    option_map (λ n. n + l.place) (place_among (task_of l.task) (blocks_of (drop l.place l.blocks))) ≡ place_among (task_of l.task) (blocks_of l.blocks)
