use Rattle.std.proofs.Common.{sym, ◌∙◌, ap, subst}
use Rattle.annot_types.specs.Certificate.{Rise}
use Rattle.annot_types.specs.Holds.{times}
use Rattle.infer_spec.proofs.Running.{rise_times}
use Rattle.bound_infer.proofs.Mapped.{never}
use Rattle.bound_infer.proofs.times.times_annot.Goals as goal

pub returns-in-None-clause-leaves : goal.returns-in-None-clause-leaves
returns-in-None-clause-leaves c =
    let made = c.in-Ok.ensures.made ∙ ap (times c.args.factor.now) c.entries.ensures.all in
    let rises = subst Rise (sym made) (rise_times c.args.factor.now c.requires 0 c.args.annot.now c.entries.ensures.rise) in
    λ e all. never (c.in-None.ensures.exactly.1 rises)
