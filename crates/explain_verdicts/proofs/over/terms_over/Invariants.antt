use Rattle.std.proofs.Common.{drop}
use Rattle.explain_verdicts.proofs.Terms.{IsMade}
use Rattle.explain_verdicts.proofs.over.terms_over.Given as goal

abbrev pub invariant-loop-fraction : goal.invariant-loop-fraction
invariant-loop-fraction l = IsMade l.den l.fractions (drop l.fraction-index l.fractions) l.terms.items
