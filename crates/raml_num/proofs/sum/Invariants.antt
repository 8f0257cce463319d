use Rattle.raml_num.proofs.Totals.{IsSumSoFar}
use Rattle.raml_num.proofs.sum.Given as goal

abbrev pub invariant-loop-term : goal.invariant-loop-term
invariant-loop-term l = IsSumSoFar l.terms l.term-index l.so_far
