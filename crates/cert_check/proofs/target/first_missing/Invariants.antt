use Rattle.std.proofs.Common.{◌≡◌, drop}
use Rattle.annot_types.specs.Certificate.{annotation}
use Rattle.cert_check.specs.Finds.{missing_from}
use Rattle.cert_check.proofs.target.first_missing.Given as goal

abbrev pub invariant-loop-place : goal.invariant-loop-place
invariant-loop-place l =
    missing_from l.place (annotation l.annot) l.aim.target (drop l.place l.aim.tuples.items)
    ≡ missing_from 0 (annotation l.annot) l.aim.target l.aim.tuples.items
