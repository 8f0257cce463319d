use Rattle.std.proofs.Common.{string_bytes}
use Rattle.raml_syntax.specs.Read.{program_of}
use Rattle.explain_calls.specs.Sizes.{meter_of}
use Rattle.explain_marks.specs.Marks.{origin_of}
use Rattle.explain_plot.proofs.Calling.{can_run, of_meter}
use Rattle.explain_plot.proofs.function.tell_runs.Goals as goal

pub tell_asked-requires-clause-runs : goal.tell_asked-requires-clause-runs
tell_asked-requires-clause-runs c = can_run c.args.source.now.bytes.items (program_of c.args.source.now.typed) c.requires.program c.requires.few

pub returns : goal.returns
returns c =
    of_meter (program_of c.args.source.now.typed) c.args.fun.0 c.args.words.now.degree c.meter_of.result (meter_of c.args.words.now.meter) (origin_of c.args.runs.now)
    (string_bytes c.args.text.now) (string_bytes c.tell_asked.new.text) (string_bytes c.args.report.now) (string_bytes c.tell_asked.new.report) c.tell_asked.result
    c.meter_of.ensures c.tell_asked.ensures
