use Rattle.std.proofs.Common.{◌≡◌, drop}
use Rattle.explain_verdicts.specs.Exceeding.{declared_at}
use Rattle.explain_verdicts.proofs.exceeding.declared_at.Given as goal

abbrev pub invariant-loop-fraction : goal.invariant-loop-fraction
invariant-loop-fraction l = declared_at l.tuple (drop l.fraction-index l.fractions) ≡ declared_at l.tuple l.fractions
