use Rattle.std.proofs.Common.{◌∙◌, refl, sym, ap, inl, inr, string_bytes}
use Rattle.raml_syntax.specs.Read.{program_of}
use Rattle.explain_plot.specs.Calls.{MadeIs, ParameterIs, no_sizes}
use Rattle.explain_plot.specs.Sizes.{all_in}
use Rattle.explain_plot.proofs.Calling.{tells_more, tells_refused}
use Rattle.explain_plot.proofs.function.tell_made.Goals as goal

pub returns-in-Some : goal.returns-in-Some
returns-in-Some c =
    let P = program_of c.args.source.now.typed in
    let words = c.args.words.now in
    let f = c.args.fun.0 in
    let spelled = sym c.in_ok-sizes.ensures ∙ ap all_in c.in-Some.is in
    let report = string_bytes c.args.report.now in
    tells_more (ParameterIs P f words) (MadeIs P f words c.args.sizes.now) (string_bytes c.args.text.now) (string_bytes c.tell_along.new.text) report report (string_bytes c.tell_along.new.report)
    c.tell_along.result (λ told is. inr (c.in-Some.sizes.items, spelled, is)) refl c.tell_along.ensures

pub returns-in_ok-push_str-in-None : goal.returns-in_ok-push_str-in-None
returns-in_ok-push_str-in-None c =
    let lacking = sym c.in_ok-sizes.ensures ∙ ap all_in c.in-None.is in
    tells_refused (MadeIs (program_of c.args.source.now.typed) c.args.fun.0 c.args.words.now c.args.sizes.now) c.refused.result (string_bytes c.args.text.now) (string_bytes c.args.report.now)
    (string_bytes c.push_str.new.self) no_sizes c.refused.ensures (λ told is. inl (lacking, is)) c.in_ok-push_str-in-None.ensures.bytes
