use Rattle.std.proofs.Common.{Err, ap, sym, ◌∙◌, subst, map}
use Rattle.annot_types.specs.Certificate.{Solved}
use Rattle.annot_types.specs.Read.{sig_of, hints_of, body_of}
use Rattle.infer_spec.specs.Places.{BodyFits}
use Rattle.bound_infer.proofs.Mapped.{same_fault}
use Rattle.bound_infer.proofs.body.multiply.Goals as goal

pub returns-in-Ok-clause-fit : goal.returns-in-Ok-clause-fit
returns-in-Ok-clause-fit c = subst (BodyFits c.args.factor.now) ((λ i. Solved (map sig_of (c.deref.ensures.value i)) (map hints_of (c.deref-in-Solved.ensures.value i))) ∙ ap body_of (sym c.in-Solved.is)) c.in-Ok.ensures.fit

pub returns-in-Err-clause-leaves : goal.returns-in-Err-clause-leaves
returns-in-Err-clause-leaves c = λ e h.
    let same = ap body_of c.in-Solved.is ∙ (λ i. Solved (map sig_of (sym c.deref.ensures.value i)) (map hints_of (sym c.deref-in-Solved.ensures.value i))) in
    c.times_solved.ensures.leaves (c.in-Err.is ∙ ap Err (same_fault _ _ e)) (subst (BodyFits c.args.factor.now) same h)
