use Rattle.std.proofs.Common.{drop}
use Rattle.bound_file.specs.Read.{coefficients_of}
use Rattle.explain_verdicts.proofs.Placing.{IsPlacing}
use Rattle.explain_verdicts.proofs.fraction.at_positions.Given as goal

abbrev pub invariant-loop-position : goal.invariant-loop-position
invariant-loop-position l = IsPlacing l.tuples l.bound (drop l.position-index l.bound) l.fractions.items
