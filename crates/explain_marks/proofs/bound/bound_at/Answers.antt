use Rattle.std.proofs.Common.{inl, subst}
use Rattle.share_normal.specs.Program.{source_in}
use Rattle.analysis_report.specs.Told.{floors_of}
use Rattle.explain_marks.specs.Marks.{IsDrawn}
use Rattle.explain_marks.proofs.Below.{upheld}
use Rattle.explain_marks.proofs.bound.bound_at.Goals as goal

pub returns-in-Ok-clause-bound : goal.returns-in-Ok-clause-bound
returns-in-Ok-clause-bound c vs stand =
    let floors = floors_of c.in-Ok.floors in
    inl (floors c.args.meter, c.in-Ok.ensures.ok vs stand c.args.meter, subst (λ floor. IsDrawn c.args.meter floor c.drawn.result) c.floor_of.ensures c.drawn.ensures)

pub returns-in-Ok-clause-upheld : goal.returns-in-Ok-clause-upheld
returns-in-Ok-clause-upheld c vs stand =
    let floors = floors_of c.in-Ok.floors in
    upheld (source_in c.args.verified.now.program) c.args.fun.0 vs floors (c.in-Ok.ensures.hold vs stand) c.args.meter c.drawn.result
    (subst (λ floor. IsDrawn c.args.meter floor c.drawn.result) c.floor_of.ensures c.drawn.ensures)
