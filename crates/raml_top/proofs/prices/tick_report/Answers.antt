use Rattle.std.proofs.Common.{◌≡◌, ◌∙◌, ap, sym, subst, length, string_bytes}
use Rattle.std.proofs.lemmas.List.{length-map}
use Rattle.normal_spec.specs.Two.{norm_fun}
use Rattle.share_normal.specs.Program.{Kept, source_in}
use Rattle.rules_plan.specs.Read.{program_in}
use Rattle.cost_free.specs.declared.task.Meter.TheVariants.{Ticks}
use Rattle.annot_types.specs.Certificate.{has_work}
use Rattle.analysis_report.specs.Lines.{AreMeterLines}
use Rattle.refusals.specs.Ending.{Done, ending_of}
use Rattle.raml_top.proofs.Pricing.{ticks_counted, lines_under}
use Rattle.raml_top.proofs.prices.tick_report.Goals as goal

pub meter_lines-requires-clause-meter : goal.meter_lines-requires-clause-meter
meter_lines-requires-clause-meter c = ticks_counted (has_work c.args.verified.now.certificate)

pub returns-in-Ok : goal.returns-in-Ok
returns-in-Ok c prices P same =
    let N = program_in c.args.program.now in
    let cert = c.args.verified.now.certificate in
    let told = subst (λ (k : Kept). AreMeterLines (source_in k) (program_in k) cert Ticks (string_bytes c.in-Ok.text)) c.requires.program c.in-Ok.ensures in
    let printed = subst (AreMeterLines (source_in c.args.program.now) N cert Ticks) (sym c.done.ensures.text) told in
    let count : length N.funs ≡ length (source_in c.args.program.now) =
    ap length c.functions-functions.ensures.norm ∙ length-map (source_in c.args.program.now) (norm_fun (source_in c.args.program.now)) in
    (Done, ap ending_of c.done.ensures.status, lines_under prices P (source_in c.args.program.now) N cert same count c.requires.proved c.done.result.text.items printed)
