-- What a call of `explain why` comes to.
use Rattle.std.specs.Prelude.{Option}
use Rattle.raml_syntax.specs.Tree.{Text}
use Rattle.explain_calls.specs.declared.end.End.{End}

-- what a call comes to: how it ends, the source that the first change gives, and the texts of what is told and of what is wrong
pub record Outcome : Type 0 where
  pub end : End
  pub changed : Option Text
  pub text : Text
  pub report : Text

abbrev pub outcome : End → Option Text → Text → Text → Outcome
outcome end changed text report = record { end = end; changed = changed; text = text; report = report }
