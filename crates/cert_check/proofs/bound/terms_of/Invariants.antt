use Rattle.std.proofs.Common.{◌≡◌, ◌++◌, drop}
use Rattle.cert_check.specs.Bound.{over}
use Rattle.cert_check.proofs.bound.terms_of.Given as goal

abbrev pub invariant-loop-position : goal.invariant-loop-position
invariant-loop-position l = l.terms.items ++ over l.tuples (drop l.position-index l.entries) ≡ over l.tuples l.entries
