use Rattle.std.proofs.Common.{◌≡◌, drop}
use Rattle.explain_reading.specs.Reading.{occurs}
use Rattle.explain_reading.proofs.used.occurs.Given as goal

abbrev pub invariant-loop-term : goal.invariant-loop-term
invariant-loop-term l = occurs l.place (drop l.term-index l.terms) ≡ occurs l.place l.terms
