use Rattle.std.proofs.Common.{take}
use Rattle.simplex.specs.Opening.{AddsColumn}
use Rattle.simplex.proofs.opening.push_terms.Given as goal

abbrev pub invariant-loop-term : goal.invariant-loop-term
invariant-loop-term l = AddsColumn l.column (take l.term-index l.terms) l.initial.rows l.rows
