use Rattle.refusals.specs.Refusals.{names_in}
use Rattle.refusals.proofs.Refusing.{other_refusal}
use Rattle.refusals.proofs.line.other_course_refusal.Goals as goal

pub returns-in_default : goal.returns-in_default
returns-in_default c =
    other_refusal (names_in c.args.program.now) c.args.fault c.in_default.not-NoMemory c.told.result (c.told.ensures (names_in c.args.program.now) c.other_line-line.ensures)
