use Rattle.std.proofs.Common.{sym, subst}
use Rattle.raml_syntax.specs.Read.{program_of}
use Rattle.rules_plan.specs.Read.{program_in}
use Rattle.explain_marks.specs.Marks.{IsMark}
use Rattle.explain_marks.proofs.Added.{AreSoFar}
use Rattle.explain_marks.proofs.made.marks_made.Goals as goal
use Rattle.explain_marks.proofs.made.marks_made.Goals.{then-is_none+in_ok-add_size, else-is_none}

pub loop-size-preserved : goal.loop-size-preserved
loop-size-preserved c =
    let Is = IsMark (program_of c.args.typed.now) (program_in c.args.verified.now.program) c.args.verified.now.certificate c.args.fun.0 c.args.meter in
    elim c.if-is_none.branch [
      | then-is_none+in_ok-add_size w ↦ subst (AreSoFar Is) (sym w.found-is) (record { steps = w.add_size.ensures.steps; marks = w.in_ok-add_size.ensures.marks })
      | else-is_none w ↦ subst (AreSoFar Is) (sym w.found-is) c.loop-size.invariant
    ]
