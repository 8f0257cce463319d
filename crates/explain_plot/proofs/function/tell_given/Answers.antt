use Rattle.std.proofs.Common.{◌∙◌, List, refl, sym, ap, inl, inr, string_bytes}
use Rattle.raml_syntax.specs.Read.{program_of, function_of}
use Rattle.raml_syntax.specs.declared.program.Param.{Param}
use Rattle.explain_words.specs.Spelled.{lent}
use Rattle.explain_plot.specs.Along.{no_parameter, parameters_of, sized}
use Rattle.explain_plot.specs.Calls.{AreFilesDrawn, GivenIs}
use Rattle.explain_plot.proofs.Calling.{refused_so, tells_more}
use Rattle.explain_plot.proofs.function.tell_given.Goals as goal

pub returns-in-Some : goal.returns-in-Some
returns-in-Some c =
    let P = program_of c.args.source.now.typed in
    let f = c.args.fun.0 in
    let words = c.args.words.now in
    let files = c.args.files.now in
    let place = c.in-Some.place in
    let read = ap (λ (params : List Param). sized (lent words.parameter) (parameters_of params)) c.deref.ensures.value in
    let there = sym read ∙ sym c.sized.ensures.place ∙ c.in-Some.is in
    let report = string_bytes c.args.report.now in
    tells_more (AreFilesDrawn P f words files place) (GivenIs P f words files) (string_bytes c.args.text.now) (string_bytes c.tell_files.new.text) report report (string_bytes c.tell_files.new.report)
    c.tell_files.result (λ told is. inr (place, (function_of c.args.function.now, c.requires.there, there), is)) refl c.tell_files.ensures

pub returns-in-None : goal.returns-in-None
returns-in-None c =
    let words = c.args.words.now in
    let read = ap (λ (params : List Param). sized (lent words.parameter) (parameters_of params)) c.deref.ensures.value in
    let lacks = sym read ∙ sym c.sized.ensures.place ∙ c.in-None.is in
    refused_so (GivenIs (program_of c.args.source.now.typed) c.args.fun.0 words c.args.files.now) (string_bytes c.args.text.now) (string_bytes c.args.report.now) (string_bytes c.refuse_parameter.new.report)
    (no_parameter words) c.refuse_parameter.result (λ told is. inl (function_of c.args.function.now, c.requires.there, lacks, is))
    c.refuse_parameter.ensures.refused c.refuse_parameter.ensures.report
