use Rattle.std.proofs.Common.{string_bytes}
use Rattle.raml_syntax.specs.Read.{program_of}
use Rattle.explain_at.specs.Read.{all_given}
use Rattle.explain_calls.specs.Read.{layout_in}
use Rattle.explain_calls.proofs.Same.{program_told}
use Rattle.explain_calls.proofs.call.tell_at.Goals as goal

pub returns-in-None : goal.returns-in-None
returns-in-None c =
    let fits = rw (c.in-None.is, c.program.ensures.program) at c.in_ok-why.ensures in
    program_told (program_of c.args.typed.now) c.args.words.now c.args.width (all_given c.args.given.now) c.asked_of-asked.result c.requires.given c.asked_of-asked.ensures.fit fits
    (layout_in c.layout_of-layout.result) c.layout_of-layout.ensures
    (string_bytes c.args.text.now) (string_bytes c.args.report.now) (string_bytes c.tell_analysed.new.text) (string_bytes c.tell_analysed.new.report) c.tell_analysed.result c.tell_analysed.ensures
