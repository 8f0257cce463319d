use Rattle.std.proofs.Common.{Option, List, ℕ, subst}
use Rattle.std.specs.Prelude.{IfSome}
use Rattle.raml_syntax.specs.Read.{program_of}
use Rattle.rules_plan.specs.Read.{program_in}
use Rattle.explain_marks.specs.Marks.{IsFileMark, IsRunOf}
use Rattle.explain_marks.specs.declared.run.Run.{Run}
use Rattle.explain_marks.proofs.Added.{one_added}
use Rattle.explain_marks.proofs.given.add_file.Goals as goal

pub returns-in-Some-clause-marks : goal.returns-in-Some-clause-marks
returns-in-Some-clause-marks c =
    let P = program_of c.args.typed.now in
    let N = program_in c.args.verified.now.program in
    let certificate = c.args.verified.now.certificate in
    let found = subst (λ (run : Option Run). IfSome run (IsRunOf P N certificate c.args.fun.0 c.args.meter c.args.place c.deref.result.now)) c.in-Some.is c.in_ok-run.ensures in
    let is = subst (λ (data' : List ℕ). IsRunOf P N certificate c.args.fun.0 c.args.meter c.args.place data' c.in-Some.run') c.deref.ensures.value found in
    one_added c.put.result (IsFileMark P N certificate c.args.fun.0 c.args.meter c.args.place c.args.file.now) _ _ _ is c.put.ensures
