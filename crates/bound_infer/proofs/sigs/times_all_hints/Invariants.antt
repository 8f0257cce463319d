use Rattle.std.proofs.Common.{◌≡◌, map, take, All, Vec}
use Rattle.std.specs.Global.{Global}
use Rattle.annot_types.specs.Holds.{times_hint}
use Rattle.annot_types.specs.Read.{hint_of, hints_of}
use Rattle.annot_types.specs.declared.block.Hint.{Hint}
use Rattle.bound_infer.specs.Fitting.{HintsFit}
use Rattle.bound_infer.proofs.sigs.times_all_hints.Given as goal

abbrev pub invariant-loop-index : goal.invariant-loop-index
invariant-loop-index l = (map hints_of l.made.items ≡ map (λ (hs : Vec Hint Global). map (λ h. times_hint l.factor (hint_of h)) hs.items) (take l.index l.lists))
    × All (λ (hs : Vec Hint Global). HintsFit l.factor hs.items) (take l.index l.lists)
