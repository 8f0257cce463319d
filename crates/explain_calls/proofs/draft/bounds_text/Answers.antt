use Rattle.std.proofs.Common.{◌≡◌, ◌++◌, ◌∙◌, ap, sym, length, arith}
use Rattle.share_normal.specs.Program.{source_in}
use Rattle.rules_plan.specs.Read.{program_in}
use Rattle.analysis_report.proofs.InOrder.{flat_map_next}
use Rattle.explain_calls.specs.Draft.{bounds_text, first_bounds_text}
use Rattle.explain_calls.proofs.draft.bounds_text.Goals as goal

pub loop-place-init : goal.loop-place-init
loop-place-init c = c.new-text.ensures.bytes

pub loop-place-preserved : goal.loop-place-preserved
loop-place-preserved c =
    let bounds = bounds_text (source_in c.args.program.now) (program_in c.args.program.now) c.args.verified.now.certificate in
    c.in_ok-push_bounds.ensures ∙ ap (λ text. text ++ bounds c.loop-place.place) c.loop-place.invariant ∙ sym (flat_map_next bounds c.loop-place.place)

pub returns : goal.returns
returns c =
    let all : c.loop-place.place ≡ length (source_in c.args.program.now) =
    omega (arith, c.loop-place-test.false, c.loop-place.auto.place-end, c.len-count.ensures, c.functions.ensures.count) in
    record {
      certificate = c.args.verified.now.certificate;
      inferred = c.requires.inferred;
      is = c.loop-place.invariant ∙ ap (first_bounds_text (source_in c.args.program.now) (program_in c.args.program.now) c.args.verified.now.certificate) all;
    }
