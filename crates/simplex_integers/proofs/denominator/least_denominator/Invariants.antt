use Rattle.std.proofs.Common.{take}
use Rattle.simplex_integers.specs.Denominators.{denominators, IsDenominator}
use Rattle.simplex_integers.proofs.denominator.least_denominator.Given as goal

abbrev pub invariant-loop-entry : goal.invariant-loop-entry
invariant-loop-entry l = IsDenominator (take l.entry (denominators l.fractions)) l.so_far
