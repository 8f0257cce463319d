use Rattle.std.proofs.Common.{◌≡◌, ◌<◌, length, ap, sym, ◌∙◌, arith}
use Rattle.std.proofs.lemmas.List.{length-map}
use Rattle.raml_syntax.specs.Read.{function_of}
use Rattle.share_normal.specs.Program.{source_in}
use Rattle.rules_plan.specs.Read.{program_in}
use Rattle.analysis_report.specs.Lines.{lines_between}
use Rattle.analysis_report.proofs.Listed.{next_listed, next_claims}
use Rattle.analysis_report.proofs.listing.all_lines.Goals as goal

pub loop-place-preserved : goal.loop-place-preserved
loop-place-preserved c =
    let P = source_in c.args.verified.now.program in
    let N = program_in c.args.verified.now.program in
    let cert = c.args.verified.now.certificate in
    let long : length P ≡ length c.args.program.now.funs.items = ap length (sym c.requires.program) ∙ length-map c.args.program.now.funs.items function_of in
    let below : c.loop-place.place < length P = omega (arith, long, c.loop-place-test.true, c.len-place-end.ensures) in (
      next_listed P N cert _ _ (lines_between P N cert 0 (length P)) c.loop-place.place (length P) below c.in_ok-push_lines.ensures.text c.loop-place.invariant.0,
      next_claims P N cert c.loop-place.place c.loop-place.invariant.1 c.in_ok-push_lines.ensures.each,
    )
