use Rattle.std.proofs.Common.{neg_ℤ}
use Rattle.frac128.specs.Values.{numerator, denominator}
use Rattle.simplex.specs.Reading.{HaveParts, frac_at}
use Rattle.simplex.proofs.reading.negated.Given as goal

abbrev pub invariant-loop-i : goal.invariant-loop-i
invariant-loop-i l = HaveParts l.i (λ i. neg_ℤ (numerator (frac_at l.numbers i))) (λ i. denominator (frac_at l.numbers i)) l.all.items
