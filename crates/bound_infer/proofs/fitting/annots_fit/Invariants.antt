use Rattle.std.proofs.Common.{All, take}
use Rattle.infer_spec.specs.Places.{EntriesFit}
use Rattle.bound_infer.proofs.fitting.annots_fit.Given as goal

abbrev pub invariant-loop-index : goal.invariant-loop-index
invariant-loop-index l = All (EntriesFit 1) (take l.index l.annots)
