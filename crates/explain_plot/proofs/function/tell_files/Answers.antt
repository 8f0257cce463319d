use Rattle.std.proofs.Common.{◌∙◌, ap, map, inl, inr, string_bytes, ◌++◌}
use Rattle.std.proofs.lemmas.List.{append-nil}
use Rattle.std.proofs.lemmas.Option.{slice_get_within}
use Rattle.raml_syntax.specs.Types.{types_of}
use Rattle.raml_syntax.specs.Read.{program_of, function_of, ty_of}
use Rattle.explain_calls.specs.Sizes.{meter_of}
use Rattle.explain_marks.specs.Marks.{OfFiles}
use Rattle.explain_plot.specs.Calls.{AreFilesDrawn, IsDrawn}
use Rattle.explain_plot.proofs.Calling.{few_types, tells_more, tells_refused}
use Rattle.explain_plot.proofs.Fitting.{all_fitting, one_unfit}
use Rattle.explain_plot.proofs.function.tell_files.Goals as goal

pub all_fit-requires-clause-types : goal.all_fit-requires-clause-types
all_fit-requires-clause-types c =
    few_types c.args.source.now.bytes.items (program_of c.args.source.now.typed) c.args.fun.0 (function_of c.args.function.now) c.deref.result.now c.requires.program c.requires.there
    (ap (map ty_of) c.deref.ensures.value ∙ c.in_ok-types.ensures)

pub tell_runs-requires-clause-fun : goal.tell_runs-requires-clause-fun
tell_runs-requires-clause-fun c = slice_get_within (program_of c.args.source.now.typed) c.args.fun.0 (function_of c.args.function.now) c.requires.there

pub returns-then-not-branch : goal.returns-then-not-branch
returns-then-not-branch c =
    let told = c.in_ok-all_fit.ensures in
    let g = function_of c.args.function.now in
    let files = c.args.files.now in
    let types = ap (map ty_of) c.deref.ensures.value ∙ c.in_ok-types.ensures in
    let unfit = one_unfit (types_of g) files c.in_ok-all_fit.field-0 told.0 c.if-not-branch.true (rw types at told.1) in
    tells_refused (AreFilesDrawn (program_of c.args.source.now.typed) c.args.fun.0 c.args.words.now files c.args.place) c.refused.result (string_bytes c.args.text.now)
    (string_bytes c.args.report.now) (string_bytes c.all_fit.new.report) told.0 c.refused.ensures (λ outcome is. inl (g, c.requires.there, told.0, unfit, is)) told.2

pub returns : goal.returns
returns c =
    let P = program_of c.args.source.now.typed in
    let f = c.args.fun.0 in
    let words = c.args.words.now in
    let told = c.in_ok-all_fit.ensures in
    let g = function_of c.args.function.now in
    let files = c.args.files.now in
    let types = ap (map ty_of) c.deref.ensures.value ∙ c.in_ok-types.ensures in
    let fit = all_fitting (types_of g) files c.in_ok-all_fit.field-0 told.0 c.if-not-branch.false (rw types at told.1) in
    let report = string_bytes c.args.report.now in
    let same = told.2 ∙ ap (λ part. report ++ part) fit.1 ∙ append-nil report in
    tells_more (IsDrawn P f words.degree (meter_of words.meter) (OfFiles c.args.place files)) (AreFilesDrawn P f words files c.args.place) (string_bytes c.args.text.now)
    (string_bytes c.tell_runs.new.text) report (string_bytes c.all_fit.new.report) (string_bytes c.tell_runs.new.report) c.tell_runs.result
    (λ outcome is. inr ((g, c.requires.there, fit.0), is)) same c.tell_runs.ensures
