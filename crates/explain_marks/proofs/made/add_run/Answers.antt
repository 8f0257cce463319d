use Rattle.std.proofs.Common.{Option, sym, subst}
use Rattle.std.specs.Prelude.{IfSome}
use Rattle.std.specs.List.{All}
use Rattle.raml_syntax.specs.Read.{program_of}
use Rattle.rules_plan.specs.Read.{program_in}
use Rattle.explain_chart.specs.Read.{mark_in}
use Rattle.explain_chart.specs.declared.mark.Mark.{Mark}
use Rattle.explain_marks.specs.Marks.{IsMark, IsRunOf}
use Rattle.explain_marks.specs.declared.marks.Marks.{Marks}
use Rattle.explain_marks.specs.declared.run.Run.{Run}
use Rattle.explain_marks.proofs.Added.{one_pushed}
use Rattle.explain_marks.proofs.made.add_run.Goals as goal
use Rattle.explain_marks.proofs.made.add_run.Goals.{in-Some+in_ok-push-in-Some, in-None}

pub returns-clause-marks : goal.returns-clause-marks
returns-clause-marks c =
    let P = program_of c.args.typed.now in
    let N = program_in c.args.verified.now.program in
    let certificate = c.args.verified.now.certificate in
    let data' = c.as_bytes.result.now in
    let Is = IsMark P N certificate c.args.fun.0 c.args.meter in
    elim c.match-branch-3.branch [
      | in-Some+in_ok-push-in-Some w ↦
          let run = subst (λ (run : Option Run). IfSome run (IsRunOf P N certificate c.args.fun.0 c.args.meter c.unwrap_or.result data')) w.in-Some.is c.in_ok-run.ensures in
          subst (λ (found : Marks). All (λ (m : Mark). Is (mark_in m)) found.marks.items) (sym w.found-is)
          (one_pushed Is _ _ _ (data', run.0) w.in_ok-push-in-Some.ensures.items c.requires.before)
      | in-None w ↦ subst (λ (found : Marks). All (λ (m : Mark). Is (mark_in m)) found.marks.items) (sym w.found-is) c.requires.before
    ]
