use Rattle.std.proofs.Common.{◌∙◌, subst}
use Rattle.refusal_text.specs.declared.plain.Which.TheVariants as w
use Rattle.refusal_text.specs.declared.task.Analysed.TheVariants as analysed
use Rattle.raml_promise.specs.Outside.{Sound}
use Rattle.raml_promise.specs.Steps.{OfShort, OfSource}
use Rattle.raml_promise.specs.Promise.{Tries}
use Rattle.raml_parts.specs.Parts.{Gives}
use Rattle.raml_top.proofs.trial.trial.Goals as goal

pub returns-in-Ok : goal.returns-in-Ok
returns-in-Ok c =
    subst (λ bytes. Gives (OfShort w.Program bytes (OfSource analysed.Program bytes (Tries Sound c.args.count))) c.try_source.result) (c.as_bytes.ensures.value ∙ c.in-Ok.ensures) c.try_source.ensures
