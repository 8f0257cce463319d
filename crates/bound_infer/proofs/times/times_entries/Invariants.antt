use Rattle.std.proofs.Common.{◌≡◌, take}
use Rattle.annot_types.specs.Holds.{times}
use Rattle.infer_spec.specs.Places.{EntriesFit}
use Rattle.bound_infer.proofs.times.times_entries.Given as goal

abbrev pub invariant-loop-index : goal.invariant-loop-index
invariant-loop-index l = (l.made.items ≡ times l.factor (take l.index l.entries)) × EntriesFit l.factor (take l.index l.entries)
