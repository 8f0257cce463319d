use Rattle.std.proofs.Common.{ℕ, sym, subst, ◌∙◌}
use Rattle.raml_words.specs.Words.{texts}
use Rattle.raml_words.specs.Asked.{Tells}
use Rattle.raml_words.proofs.Found.{count_law}
use Rattle.raml_words.proofs.made.count_operands.Goals as goal

pub returns-then-are_numbers : goal.returns-then-are_numbers
returns-then-are_numbers c =
    let numbers = sym c.are_numbers.ensures ∙ c.if-are_numbers.true in
    subst (Tells (λ (n : ℕ). n) c.count_ordered.result) (count_law c.args.command.now (texts c.args.operands.now) numbers) c.count_ordered.ensures
