use Rattle.std.proofs.Common.{drop}
use Rattle.annot_types.specs.Held.{AllRise}
use Rattle.cert_check.proofs.shape.all_rise.Given as goal

abbrev pub invariant-loop-annot : goal.invariant-loop-annot
invariant-loop-annot l = AllRise (drop l.annot-index l.annots) → AllRise l.annots
