use Rattle.std.proofs.Common.{All, take}
use Rattle.annot_types.specs.Read.{sig_of}
use Rattle.infer_spec.specs.Places.{SigFits}
use Rattle.bound_infer.proofs.fitting.sigs_fit.Given as goal

abbrev pub invariant-loop-index : goal.invariant-loop-index
invariant-loop-index l = All (λ s. SigFits 1 (sig_of s)) (take l.index l.sigs)
