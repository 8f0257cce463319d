use Rattle.std.proofs.Common.{refl, inr}
use Rattle.raml_words.specs.Words.{texts}
use Rattle.refusals.specs.Ending as e
use Rattle.refusals.specs.Line.{no_names}
use Rattle.refusals.specs.declared.status.Status.TheVariants as s
use Rattle.raml_parts.specs.Parts.{WordsRefuse}
use Rattle.raml_parts.proofs.Refusing.{told_refuses}
use Rattle.raml_top.proofs.top.asked.Goals as goal

pub returns-in-Err-Usage-clause-err : goal.returns-in-Err-Usage-clause-err
returns-in-Err-Usage-clause-err c =
    told_refuses no_names s.Usage e.Usage (WordsRefuse (texts c.args.words.now)) refl (refl, c.in-Err-Usage.ensures.usage c.in-Err-Usage.field-0-is) c.usage.result (inr (c.usage.ensures no_names))
