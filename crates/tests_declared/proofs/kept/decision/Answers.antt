use Rattle.std.proofs.Common.{◌∙◌, sym, subst}
use Rattle.raml_syntax.specs.Read.{program_of}
use Rattle.bound_file.specs.Answers.{AreWithin}
use Rattle.tests_declared.proofs.kept.decision.Goals as goal

pub decision_over-requires-clause-within : goal.decision_over-requires-clause-within
decision_over-requires-clause-within c = subst (λ s. AreWithin (program_of s) c.in-Ok.declared) (c.program.ensures.program ∙ sym c.in_ok-program.ensures.source) c.in-Ok.ensures.within
