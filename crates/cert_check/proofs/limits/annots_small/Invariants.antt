use Rattle.std.proofs.Common.{drop}
use Rattle.cert_check.specs.Limits.{AnnotsSmall}
use Rattle.cert_check.proofs.limits.annots_small.Given as goal

abbrev pub invariant-loop-annot : goal.invariant-loop-annot
invariant-loop-annot l = AnnotsSmall (drop l.annot-index l.annots) → AnnotsSmall l.annots
