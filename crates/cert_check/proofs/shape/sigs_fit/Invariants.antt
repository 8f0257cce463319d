use Rattle.std.proofs.Common.{◌↔◌, drop, map}
use Rattle.annot_types.specs.Held.{SigsRise}
use Rattle.annot_types.specs.Read.{sig_of}
use Rattle.rules_plan.specs.Read.{body_of}
use Rattle.cert_check.specs.Finds.{SigsFit}
use Rattle.cert_check.proofs.shape.sigs_fit.Given as goal

abbrev pub invariant-loop-body : goal.invariant-loop-body
invariant-loop-body l = record {
  fit : SigsFit (map body_of (drop l.body-index l.bodies)) (map sig_of l.sigs) ↔ SigsFit (map body_of l.bodies) (map sig_of l.fn.sigs);
  rise : SigsRise (map sig_of l.sigs) → SigsRise (map sig_of l.fn.sigs);
}
