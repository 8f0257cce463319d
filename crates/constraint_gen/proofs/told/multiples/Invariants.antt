use Rattle.std.proofs.Common.{◌≡◌, ◌+◌, ◌++◌, drop, length}
use Rattle.rules_spec.specs.Asked.{given_blocks}
use Rattle.rules_spec.specs.Told.{named}
use Rattle.constraint_gen.specs.Numbers.{numbers}
use Rattle.constraint_gen.proofs.told.multiples.Given as goal

abbrev pub invariant-loop-block : goal.invariant-loop-block
invariant-loop-block l =
    (l.made.items ++ named (given_blocks (numbers l.solution) l.next (drop l.block-index l.blocks)) ≡ named (given_blocks (numbers l.solution) l.fn.next l.blocks))
    × (l.next + length (drop l.block-index l.blocks) ≡ l.fn.next + length l.blocks)
