use Rattle.std.proofs.Common.{◌∙◌, List, Some, refl, sym, ap, inl, inr, string_bytes}
use Rattle.std.proofs.lemmas.Option.{slice_get_within}
use Rattle.raml_syntax.specs.Read.{program_of, function_of}
use Rattle.raml_syntax.specs.declared.program.Param.{Param}
use Rattle.explain_calls.specs.Sizes.{meter_of}
use Rattle.explain_marks.specs.Marks.{origin_of}
use Rattle.explain_words.specs.Spelled.{lent}
use Rattle.explain_plot.specs.Along.{no_parameter, parameters_of, sized}
use Rattle.explain_plot.specs.Calls.{AreMadeDrawn, ParameterBy}
use Rattle.explain_plot.proofs.Calling.{of_made, of_parameter, refused_so, tells_more}
use Rattle.explain_plot.proofs.function.tell_along.Goals as goal

pub tell_runs-requires-clause-fun : goal.tell_runs-requires-clause-fun
tell_runs-requires-clause-fun c = slice_get_within (program_of c.args.source.now.typed) c.args.fun.0 (function_of c.args.function.now) c.requires.there

pub tell_runs-requires-in-None-clause-fun : goal.tell_runs-requires-in-None-clause-fun
tell_runs-requires-in-None-clause-fun c = slice_get_within (program_of c.args.source.now.typed) c.args.fun.0 (function_of c.args.function.now) c.requires.there

pub returns-in-Some-sized : goal.returns-in-Some-sized
returns-in-Some-sized c =
    let P = program_of c.args.source.now.typed in
    let f = c.args.fun.0 in
    let words = c.args.words.now in
    let g = function_of c.args.function.now in
    let name = Some c.in-Some.field-0.now in
    let read = ap (λ (params : List Param). sized (lent words.parameter) (parameters_of params)) c.deref.ensures.value in
    let there = sym read ∙ sym c.sized.ensures.place ∙ c.in-Some-sized.is in
    let text = string_bytes c.args.text.now in
    let report = string_bytes c.args.report.now in
    let new_text = string_bytes c.tell_runs.new.text in
    let new = string_bytes c.tell_runs.new.report in
    let made = of_made P f words.degree (meter_of words.meter) (origin_of c.made_runs-runs.result) text new_text report new c.tell_runs.result c.made_runs-runs.ensures c.tell_runs.ensures in
    of_parameter P f words name text new_text report new c.tell_runs.result (ap lent c.in-Some.is)
    (tells_more (AreMadeDrawn P f words) (ParameterBy name P f words) text new_text report report new c.tell_runs.result
    (λ told is. inr (c.in-Some-sized.place, (g, c.requires.there, there), is)) refl made)

pub returns-in-None-sized : goal.returns-in-None-sized
returns-in-None-sized c =
    let P = program_of c.args.source.now.typed in
    let f = c.args.fun.0 in
    let words = c.args.words.now in
    let g = function_of c.args.function.now in
    let name = Some c.in-Some.field-0.now in
    let read = ap (λ (params : List Param). sized (lent words.parameter) (parameters_of params)) c.deref.ensures.value in
    let lacks = sym read ∙ sym c.sized.ensures.place ∙ c.in-None-sized.is in
    let text = string_bytes c.args.text.now in
    let report = string_bytes c.args.report.now in
    let new = string_bytes c.refuse_parameter.new.report in
    of_parameter P f words name text text report new c.refuse_parameter.result (ap lent c.in-Some.is)
    (refused_so (ParameterBy name P f words) text report new (no_parameter words) c.refuse_parameter.result
    (λ told is. inl (g, c.requires.there, lacks, is)) c.refuse_parameter.ensures.refused c.refuse_parameter.ensures.report)

pub returns-in-None : goal.returns-in-None
returns-in-None c =
    let P = program_of c.args.source.now.typed in
    let f = c.args.fun.0 in
    let words = c.args.words.now in
    let text = string_bytes c.args.text.now in
    let report = string_bytes c.args.report.now in
    let new_text = string_bytes c.tell_runs-in-None.new.text in
    let new = string_bytes c.tell_runs-in-None.new.report in
    let made = of_made P f words.degree (meter_of words.meter) (origin_of c.made_runs-runs-in-None.result) text new_text report new c.tell_runs-in-None.result c.made_runs-runs-in-None.ensures
    c.tell_runs-in-None.ensures in
    of_parameter P f words _ text new_text report new c.tell_runs-in-None.result (ap lent c.in-None.is) made
