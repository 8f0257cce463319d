use Rattle.std.proofs.Common.{sym, subst}
use Rattle.raml_syntax.specs.Read.{program_of}
use Rattle.bound_file.specs.Answers.{AreWithin}
use Rattle.raml_words.specs.declared.request.Rule.TheVariants as rule
use Rattle.refusal_text.specs.declared.task.Analysed.TheVariants as analysed
use Rattle.raml_promise.specs.Outside.{Sound}
use Rattle.raml_promise.specs.Analysis.{OfCourse}
use Rattle.raml_promise.specs.DeclaredBounds.{PrintsVerdicts}
use Rattle.raml_parts.proofs.Proved.{kept_gives}
use Rattle.raml_top.proofs.contract.verdicts.Goals as goal

pub returns-in-Ok : goal.returns-in-Ok
returns-in-Ok c =
    kept_gives c.args.typed.now c.in-Ok.program c.in-Ok.ensures.source c.in-Ok.ensures.groups c.in-Ok.ensures.normal
    (λ P N. OfCourse Sound analysed.Program P N c.args.degree rule.Least (PrintsVerdicts Sound P N c.args.declared.now.lines)) c.course_verdicts.result c.course_verdicts.ensures

pub course_verdicts-requires-clause-within : goal.course_verdicts-requires-clause-within
course_verdicts-requires-clause-within c = subst (λ s. AreWithin (program_of s) c.args.declared.now) (sym c.in-Ok.ensures.source) c.requires.within
