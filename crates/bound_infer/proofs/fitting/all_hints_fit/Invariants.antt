use Rattle.std.proofs.Common.{Vec, All, take}
use Rattle.std.specs.Global.{Global}
use Rattle.annot_types.specs.declared.block.Hint.{Hint}
use Rattle.bound_infer.specs.Fitting.{HintsFit}
use Rattle.bound_infer.proofs.fitting.all_hints_fit.Given as goal

abbrev pub invariant-loop-index : goal.invariant-loop-index
invariant-loop-index l = All (λ (hs : Vec Hint Global). HintsFit 1 hs.items) (take l.index l.lists)
