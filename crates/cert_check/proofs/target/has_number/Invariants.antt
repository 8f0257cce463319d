use Rattle.std.proofs.Common.{◌≡◌, drop}
use Rattle.annot_types.specs.Certificate.{annotation}
use Rattle.cert_check.specs.Covering.{has_from}
use Rattle.cert_check.proofs.target.has_number.Given as goal

abbrev pub invariant-loop-place : goal.invariant-loop-place
invariant-loop-place l = has_from l.place l.tuple (drop l.place l.tuples) (annotation l.annot) ≡ has_from 0 l.tuple l.tuples (annotation l.annot)
