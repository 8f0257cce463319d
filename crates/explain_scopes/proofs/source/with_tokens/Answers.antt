use Rattle.std.proofs.Common.{List}
use Rattle.raml_parse.specs.Spelling.{HasTokens}
use Rattle.parse_table.specs.Tokens.{Token}
use Rattle.explain_scopes.proofs.source.with_tokens.Goals as goal

pub returns-in-None : goal.returns-in-None
returns-in-None c =
    let none : (ts : List Token) → HasTokens c.args.bytes.now ts → ⊥ = rw c.in-None.is at c.in_ok-tokens.ensures in
    λ short P spelled. none c.requires.spelled.tokens c.requires.spelled.has
