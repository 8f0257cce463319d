use Rattle.std.proofs.Common.{◌≡◌, length, ap, sym, ◌∙◌, arith}
use Rattle.std.proofs.lemmas.List.{length-map}
use Rattle.raml_syntax.specs.Read.{function_of}
use Rattle.share_normal.specs.Program.{source_in}
use Rattle.rules_plan.specs.Read.{program_in}
use Rattle.analysis_report.proofs.Compared.{none_compare, next_compare, all_compare}
use Rattle.analysis_report.proofs.comparing.all_comparisons.Goals as goal

pub loop-place-init : goal.loop-place-init
loop-place-init c =
    none_compare (source_in c.args.verified.now.program) (program_in c.args.verified.now.program) c.args.verified.now.certificate
    (source_in c.args.other.now.program) (program_in c.args.other.now.program) c.args.other.now.certificate _ c.new-text.ensures.bytes

pub loop-place-preserved : goal.loop-place-preserved
loop-place-preserved c =
    next_compare (source_in c.args.verified.now.program) (program_in c.args.verified.now.program) c.args.verified.now.certificate
    (source_in c.args.other.now.program) (program_in c.args.other.now.program) c.args.other.now.certificate
    c.loop-place.place _ _ c.loop-place.invariant c.in_ok-push_function.ensures

pub returns : goal.returns
returns c =
    let P = source_in c.args.verified.now.program in
    let long : length P ≡ length c.args.program.now.funs.items = ap length (sym c.requires.program) ∙ length-map c.args.program.now.funs.items function_of in
    all_compare P (program_in c.args.verified.now.program) c.args.verified.now.certificate
    (source_in c.args.other.now.program) (program_in c.args.other.now.program) c.args.other.now.certificate
    c.loop-place.place _ (omega (arith, long, c.loop-place-test.false, c.len-place-end.ensures)) c.loop-place.invariant
