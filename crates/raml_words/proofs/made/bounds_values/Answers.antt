use Rattle.std.proofs.Common.{sym, subst, ◌∙◌}
use Rattle.raml_words.specs.Words.{texts}
use Rattle.raml_words.specs.Sorting.{lent}
use Rattle.raml_words.specs.Asked.{Tells, bounds_of}
use Rattle.raml_words.proofs.Found.{bounds_law}
use Rattle.raml_words.proofs.made.bounds_values.Goals as goal

pub returns-then-given_rule : goal.returns-then-given_rule
returns-then-given_rule c =
    let number = sym c.given_number.ensures ∙ c.if-given_number.true in
    subst (Tells bounds_of c.bounds_ordered.result) (bounds_law c.args.command.now (lent c.args.degree) (lent c.args.pivot) (texts c.args.operands.now) number) c.bounds_ordered.ensures
