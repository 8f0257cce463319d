use Rattle.std.proofs.Common.{Err, ap, ◌∙◌}
use Rattle.annot_types.specs.Certificate.{Solved}
use Rattle.bound_infer.proofs.Mapped.{same_fault}
use Rattle.bound_infer.proofs.Bodies.{sigs_made, hints_made, sigs_fit, sigs_back, hints_fit, hints_back}
use Rattle.bound_infer.proofs.body.times_solved.Goals as goal

pub returns-in-Err-clause-leaves : goal.returns-in-Err-clause-leaves
returns-in-Err-clause-leaves c = λ e h. c.times_sigs.ensures.leaves (c.in-Err.is ∙ ap Err (same_fault _ _ e)) (sigs_back c.args.factor.now c.args.sigs.now h.0)

pub returns-in-Ok-times_all_hints-clause-made : goal.returns-in-Ok-times_all_hints-clause-made
returns-in-Ok-times_all_hints-clause-made c =
    let sigs = c.in-Ok.ensures.made ∙ sigs_made c.args.factor.now c.args.sigs.now in
    let hints = c.in-Ok-times_all_hints.ensures.made ∙ hints_made c.args.factor.now c.args.hints.now in
    λ i. Solved (sigs i) (hints i)

pub returns-in-Ok-times_all_hints-clause-fit : goal.returns-in-Ok-times_all_hints-clause-fit
returns-in-Ok-times_all_hints-clause-fit c = (sigs_fit c.args.factor.now c.args.sigs.now c.in-Ok.ensures.fit, hints_fit c.args.factor.now c.args.hints.now c.in-Ok-times_all_hints.ensures.fit)

pub returns-in-Err-times_all_hints-clause-leaves : goal.returns-in-Err-times_all_hints-clause-leaves
returns-in-Err-times_all_hints-clause-leaves c = λ e h. c.times_all_hints.ensures.leaves (c.in-Err-times_all_hints.is ∙ ap Err (same_fault _ _ e)) (hints_back c.args.factor.now c.args.hints.now h.1)
