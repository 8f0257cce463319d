use Rattle.std.proofs.Common.{◌≡◌, ◌+◌, ◌++◌, drop, length}
use Rattle.rules_spec.specs.Asked.{given_blocks}
use Rattle.constraint_gen.specs.Sums.{unknown}
use Rattle.constraint_gen.proofs.give.given_blocks.Given as goal

abbrev pub invariant-loop-block : goal.invariant-loop-block
invariant-loop-block l =
    (l.made.items ++ given_blocks unknown l.next (drop l.block-index l.blocks) ≡ given_blocks unknown l.fn.next l.blocks)
    × (l.next + length (drop l.block-index l.blocks) ≡ l.fn.next + length l.blocks)
