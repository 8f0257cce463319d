use Rattle.simplex.specs.Reading.{IsSpreadTo}
use Rattle.simplex.proofs.reading.spread.Given as goal

abbrev pub invariant-loop-i : goal.invariant-loop-i
invariant-loop-i l = IsSpreadTo l.i l.count l.columns l.numbers l.all.items
