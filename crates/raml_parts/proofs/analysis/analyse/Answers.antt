use Rattle.rules_plan.specs.Read.{program_in}
use Rattle.refusals.specs.Refusals.{names_in}
use Rattle.raml_promise.specs.Analysis.{analysis}
use Rattle.raml_parts.proofs.Refusing.{course_refuses}
use Rattle.raml_parts.proofs.analysis.analyse.Goals as goal

pub returns-in-Err-clause-err : goal.returns-in-Err-clause-err
returns-in-Err-clause-err c =
    course_refuses c.args.whose (names_in c.args.program.now) (analysis (program_in c.args.program.now) c.args.degree c.args.rule) c.in-Err.fault c.in-Err.ensures.fault c.course_refusal.result c.course_refusal.ensures
