use Rattle.std.proofs.Common.{◌≡◌, ◌+◌, drop}
use Rattle.rules_spec.specs.Growth.{span}
use Rattle.rules_walk.proofs.growing.span.Given as goal

abbrev pub invariant-loop-entry : goal.invariant-loop-entry
invariant-loop-entry l = l.all + span (drop l.entry-index l.entries) ≡ span l.entries
