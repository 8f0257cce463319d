use Rattle.std.proofs.Common.{◌≡◌, map, take}
use Rattle.annot_types.specs.Holds.{times_hint}
use Rattle.annot_types.specs.Read.{hint_of}
use Rattle.bound_infer.specs.Fitting.{HintsFit}
use Rattle.bound_infer.proofs.sigs.times_hints.Given as goal

abbrev pub invariant-loop-index : goal.invariant-loop-index
invariant-loop-index l = (map hint_of l.made.items ≡ map (λ h. times_hint l.factor (hint_of h)) (take l.index l.hints)) × HintsFit l.factor (take l.index l.hints)
