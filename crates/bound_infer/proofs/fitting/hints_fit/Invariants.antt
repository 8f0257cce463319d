use Rattle.std.proofs.Common.{take}
use Rattle.bound_infer.specs.Fitting.{HintsFit}
use Rattle.bound_infer.proofs.fitting.hints_fit.Given as goal

abbrev pub invariant-loop-index : goal.invariant-loop-index
invariant-loop-index l = HintsFit 1 (take l.index l.hints)
