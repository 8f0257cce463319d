use Rattle.std.proofs.Common.{unsigned_abs}
use Rattle.simplex_rows.proofs.Widening.{Widening}
use Rattle.simplex_rows.proofs.short.widened.Given as goal

abbrev pub invariant-loop-column : goal.invariant-loop-column
invariant-loop-column l = Widening (unsigned_abs l.row.den) l.column-index l.row.numbers l.wide
