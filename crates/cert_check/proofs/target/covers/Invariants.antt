use Rattle.std.proofs.Common.{◌≡◌, drop}
use Rattle.annot_types.specs.Certificate.{annotation}
use Rattle.cert_check.specs.Covering.{has_all}
use Rattle.cert_check.proofs.target.covers.Given as goal

abbrev pub invariant-loop-tuple : goal.invariant-loop-tuple
invariant-loop-tuple l =
    has_all l.aim.tuples.items (annotation l.annot) (drop l.tuple-index l.tuple-items) ≡ has_all l.aim.tuples.items (annotation l.annot) l.aim.target
