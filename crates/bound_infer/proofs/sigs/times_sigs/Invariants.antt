use Rattle.std.proofs.Common.{◌≡◌, map, take, All}
use Rattle.annot_types.specs.Holds.{times_sig}
use Rattle.annot_types.specs.Read.{sig_of}
use Rattle.infer_spec.specs.Places.{SigFits}
use Rattle.bound_infer.proofs.sigs.times_sigs.Given as goal

abbrev pub invariant-loop-index : goal.invariant-loop-index
invariant-loop-index l = (map sig_of l.made.items ≡ map (λ s. times_sig l.factor (sig_of s)) (take l.index l.sigs)) × All (λ s. SigFits l.factor (sig_of s)) (take l.index l.sigs)
