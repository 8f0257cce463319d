use Rattle.std.proofs.Common.{sym, subst, ◌∙◌}
use Rattle.raml_words.specs.Words.{texts}
use Rattle.raml_words.specs.Sorting.{lent}
use Rattle.raml_words.specs.Asked.{Tells, request_of}
use Rattle.raml_words.proofs.RunFound.{run_law}
use Rattle.raml_words.proofs.run.run_values.Goals as goal

pub returns-then-given_number-3 : goal.returns-then-given_number-3
returns-then-given_number-3 c =
    let steps = sym c.given_number.ensures ∙ c.if-given_number.true in
    let cells = sym c.given_number-then-given_number.ensures ∙ c.if-given_number-2.true in
    let degree = sym c.given_number-then-given_number-2.ensures ∙ c.if-given_number-3.true in
    subst (Tells request_of c.run_ordered.result) (run_law (lent c.args.steps) (lent c.args.cells) (lent c.args.degree) (texts c.args.operands.now) steps cells degree) c.run_ordered.ensures
