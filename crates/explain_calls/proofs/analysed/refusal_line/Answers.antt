use Rattle.refusals.specs.Refusals.{names_in}
use Rattle.explain_calls.proofs.Behind.{line_is}
use Rattle.explain_calls.proofs.analysed.refusal_line.Goals as goal

pub returns : goal.returns
returns c =
    let line = line_is (names_in c.args.program.now) c.args.fault c.course_refusal-refusal.result c.course_refusal-refusal.ensures c.in_default.not-NoMemory in
    rw (c.text.ensures, line) at c.from_str.ensures.ok
