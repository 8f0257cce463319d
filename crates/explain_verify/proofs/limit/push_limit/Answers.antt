use Rattle.refusals.specs.Refusals.{names_in}
use Rattle.explain_verify.proofs.Limits.{line_is}
use Rattle.explain_verify.proofs.limit.push_limit.Goals as goal

pub returns : goal.returns
returns c =
    let line = line_is (names_in c.args.subject.now.program.now) c.args.limit c.course_refusal-refusal.result c.course_refusal-refusal.ensures c.in_default.not-NoMemory in
    rw (← line, ← c.text.ensures) c.write.ensures.bytes
