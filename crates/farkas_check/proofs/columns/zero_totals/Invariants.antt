use Rattle.std.proofs.Common.{[]}
use Rattle.farkas_check.specs.Sides.{AreTotals}
use Rattle.farkas_check.proofs.columns.zero_totals.Given as goal

abbrev pub invariant-loop : goal.invariant-loop
invariant-loop l = AreTotals l.counter (λ _. []) l.totals.items
