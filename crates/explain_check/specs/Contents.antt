-- What is found in a source.
use Rattle.raml_syntax.specs.Tree.{Text}
use Rattle.raml_syntax.specs.Read.{program_of}
use Rattle.explain_check.specs.Checks.{IsProgramOf, RefusedAt}
use Rattle.explain_check.specs.declared.source.Found.{Found}
use Rattle.explain_check.specs.declared.source.Found.TheVariants as f

-- the typed program that it spells, or the place at which `raml` refuses it
abbrev pub FoundIn : Text → Found → Type 0
FoundIn source (f.Program program) = IsProgramOf source (program_of program)
FoundIn source (f.Fault message) = RefusedAt source message
