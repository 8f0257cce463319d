use Rattle.std.proofs.Common.{◌≡◌, ◌<◌, ◌++◌, length, refl, sym, ap, ◌∙◌, subst, arith}
use Rattle.std.specs.Prelude.{string_bytes}
use Rattle.std.proofs.lemmas.List.{length-map}
use Rattle.std.proofs.lemmas.Option.{slice_get_read}
use Rattle.std.proofs.lemmas.Result.{on_ok_weaker}
use Rattle.raml_syntax.specs.Read.{function_of, place_in}
use Rattle.share_normal.specs.Program.{source_in}
use Rattle.rules_plan.specs.Read.{program_in}
use Rattle.report_text.specs.Names.{name_at}
use Rattle.analysis_report.specs.Comparison.{comparisons_text}
use Rattle.analysis_report.specs.Steps.{IsCounterpartIn, by_meter}
use Rattle.analysis_report.proofs.Compared.{has_comparisons}
use Rattle.analysis_report.proofs.comparing.push_function.Goals as goal

pub returns : goal.returns
returns c =
    let P = source_in c.args.verified.now.program in
    let funs = c.args.program.now.funs.items in
    let x = c.index.result.now in
    let other = place_in c.counterpart-counterpart.result in
    let found = c.in_ok-found.found in
    let long : length P ≡ length funs = ap length (sym c.requires.program) ∙ length-map funs function_of in
    let below : c.args.fun.0 < length funs = omega (arith, long, c.requires.fun) in
    let name = c.name_at.ensures ∙ ap (λ Q. name_at Q c.args.fun.0) c.requires.program in
    on_ok_weaker _
    (λ longer. has_comparisons P (program_in c.args.verified.now.program) c.args.verified.now.certificate
    (source_in c.args.other.now.program) (program_in c.args.other.now.program) c.args.other.now.certificate
    funs c.requires.program c.args.fun.0 x (slice_get_read funs (length funs) c.args.fun.0 x refl below c.index.ensures)
    other (subst (λ Q. IsCounterpartIn Q (function_of x) other) c.requires.names c.counterpart-counterpart.ensures) found c.in_ok-found.ensures _ _
    (longer ∙ ap (λ t. string_bytes c.args.text.now ++ comparisons_text t (by_meter found)) name))
    c.push_comparisons.ensures
