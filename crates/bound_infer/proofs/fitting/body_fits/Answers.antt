use Rattle.std.proofs.Common.{◌∙◌, ap, sym, subst, map}
use Rattle.annot_types.specs.Certificate.{Solved}
use Rattle.annot_types.specs.Read.{sig_of, hints_of, body_of}
use Rattle.infer_spec.specs.Places.{BodyFits}
use Rattle.bound_infer.proofs.Bodies.{sigs_fit, hints_fit}
use Rattle.bound_infer.proofs.fitting.body_fits.Goals as goal

pub returns-in-Solved : goal.returns-in-Solved
returns-in-Solved c = subst (BodyFits 1)
    ((λ i. Solved (map sig_of (c.deref.ensures.value i)) (map hints_of (c.deref-in-Solved.ensures.value i))) ∙ ap body_of (sym c.in-Solved.is))
    (sigs_fit 1 c.deref.result.now c.sigs_fit.ensures, hints_fit 1 c.deref-in-Solved.result.now c.all_hints_fit.ensures)
