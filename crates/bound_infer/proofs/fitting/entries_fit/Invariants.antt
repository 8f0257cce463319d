use Rattle.std.proofs.Common.{take}
use Rattle.infer_spec.specs.Places.{EntriesFit}
use Rattle.bound_infer.proofs.fitting.entries_fit.Given as goal

abbrev pub invariant-loop-index : goal.invariant-loop-index
invariant-loop-index l = EntriesFit 1 (take l.index l.entries)
