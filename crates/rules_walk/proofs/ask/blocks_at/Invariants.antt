use Rattle.std.proofs.Common.{◌≡◌, ◌++◌, drop}
use Rattle.rules_walk.specs.Filled.{blocks_at}
use Rattle.rules_walk.proofs.ask.blocks_at.Given as goal

abbrev pub invariant-loop-usage : goal.invariant-loop-usage
invariant-loop-usage l = l.found.items ++ blocks_at l.d (drop l.usage-index l.uses) ≡ blocks_at l.d l.uses
