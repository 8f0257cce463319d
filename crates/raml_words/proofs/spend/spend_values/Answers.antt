use Rattle.std.proofs.Common.{sym, subst, ◌∙◌}
use Rattle.raml_words.specs.Words.{texts}
use Rattle.raml_words.specs.Sorting.{lent}
use Rattle.raml_words.specs.Asked.{Tells, request_of}
use Rattle.raml_words.proofs.SpendFound.{spend_law}
use Rattle.raml_words.proofs.spend.spend_values.Goals as goal

pub returns-then-given_number-2 : goal.returns-then-given_number-2
returns-then-given_number-2 c =
    let steps = sym c.given_number.ensures ∙ c.if-given_number.true in
    let cells = sym c.given_number-then-given_number.ensures ∙ c.if-given_number-2.true in
    subst (Tells request_of c.spend_ordered.result) (spend_law (lent c.args.steps) (lent c.args.cells) (texts c.args.operands.now) steps cells) c.spend_ordered.ensures
