use Rattle.std.proofs.Common.{drop}
use Rattle.explain_verdicts.proofs.Multiples.{IsSoFar}
use Rattle.explain_verdicts.proofs.over.common.Given as goal

abbrev pub invariant-loop-fraction : goal.invariant-loop-fraction
invariant-loop-fraction l = IsSoFar l.fractions (drop l.fraction-index l.fractions) l.so_far
