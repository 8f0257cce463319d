use Rattle.std.proofs.Common.{◌<◌, length, sym, subst, arith}
use Rattle.std.proofs.lemmas.Bool.Decides.{nat_tests}
use Rattle.raml_syntax.specs.Read.{program_of}
use Rattle.rules_plan.specs.Read.{program_in}
use Rattle.explain_marks.specs.Marks.{IsFileMark, IsGivenMark}
use Rattle.explain_marks.proofs.Added.{AreSoFar, all_added, of_files}
use Rattle.explain_marks.proofs.given.marks_given.Goals as goal
use Rattle.explain_marks.proofs.given.marks_given.Goals.{then-is_none+in_ok-add_file, else-is_none}

pub loop-file-preserved : goal.loop-file-preserved
loop-file-preserved c =
    let P = program_of c.args.typed.now in
    let N = program_in c.args.verified.now.program in
    let certificate = c.args.verified.now.certificate in
    let k = c.loop-file.file-index in
    let files = c.args.files.now in
    let file = c.file-item.result in
    let Is = IsGivenMark P N certificate c.args.fun.0 c.args.meter c.args.place files in
    let below : k < length files = grind (arith, nat_tests, c.loop-file-test.true) in
    elim c.if-is_none.branch [
      | then-is_none+in_ok-add_file w ↦ subst (AreSoFar Is) (sym w.found-is) (record {
        steps = w.add_file.ensures.steps;
        marks = all_added (IsFileMark P N certificate c.args.fun.0 c.args.meter c.args.place file) Is _ _
            (of_files P N certificate c.args.fun.0 c.args.meter c.args.place files k file below (sym c.file-item.is)) w.in_ok-add_file.ensures.marks c.loop-file.invariant.marks;
      })
      | else-is_none w ↦ subst (AreSoFar Is) (sym w.found-is) c.loop-file.invariant
    ]
