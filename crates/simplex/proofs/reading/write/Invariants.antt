use Rattle.std.proofs.Common.{take}
use Rattle.simplex.specs.Reading.{IsWritten}
use Rattle.simplex.proofs.reading.write.Given as goal

abbrev pub invariant-loop-column : goal.invariant-loop-column
invariant-loop-column l = IsWritten l.row (take l.column-index l.columns) l.initial.all l.all
