use Rattle.std.proofs.Common.{◌≡◌, map, take, All}
use Rattle.annot_types.specs.Holds.{times}
use Rattle.infer_spec.specs.Places.{EntriesFit}
use Rattle.bound_infer.proofs.sigs.times_annots.Given as goal

abbrev pub invariant-loop-index : goal.invariant-loop-index
invariant-loop-index l = (l.made.items ≡ map (times l.factor) (take l.index l.annots)) × All (EntriesFit l.factor) (take l.index l.annots)
