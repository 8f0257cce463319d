use Rattle.std.proofs.Common.{◌≡◌}
use Rattle.simplex_spec.specs.Places.{counted}
use Rattle.simplex.proofs.table.counted.Given as goal

abbrev pub invariant-loop-i : goal.invariant-loop-i
invariant-loop-i l = l.all.items ≡ counted l.first l.i
