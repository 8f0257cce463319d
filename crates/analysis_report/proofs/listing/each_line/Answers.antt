use Rattle.std.proofs.Common.{◌≡◌, length, ap, sym, ◌∙◌, arith}
use Rattle.std.proofs.lemmas.List.{length-map}
use Rattle.raml_syntax.specs.Read.{function_of}
use Rattle.share_normal.specs.Program.{source_in}
use Rattle.rules_plan.specs.Read.{program_in}
use Rattle.analysis_report.proofs.Listed.{none_listed, one_listed, all_listed}
use Rattle.analysis_report.proofs.listing.each_line.Goals as goal

pub loop-place-init : goal.loop-place-init
loop-place-init c = none_listed (source_in c.args.verified.now.program) (program_in c.args.verified.now.program) c.args.verified.now.certificate c.args.meter _ c.new-text.ensures.bytes

pub loop-place-preserved : goal.loop-place-preserved
loop-place-preserved c =
    one_listed (source_in c.args.verified.now.program) (program_in c.args.verified.now.program) c.args.verified.now.certificate c.args.meter c.loop-place.place _ _
    c.loop-place.invariant c.in_ok-push_line.ensures.text c.in_ok-push_line.ensures.one

pub returns : goal.returns
returns c =
    let P = source_in c.args.verified.now.program in
    let long : length P ≡ length c.args.program.now.funs.items = ap length (sym c.requires.program) ∙ length-map c.args.program.now.funs.items function_of in
    all_listed P (program_in c.args.verified.now.program) c.args.verified.now.certificate c.args.meter c.loop-place.place _ (omega (arith, long, c.loop-place-test.false, c.len-place-end.ensures))
    c.loop-place.invariant
