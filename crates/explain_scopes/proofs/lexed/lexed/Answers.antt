use Rattle.std.proofs.Common.{◌≡◌, ◌∙◌, sym}
use Rattle.raml_lex.specs.declared.token.LexFault.TheVariants.{BadChar, NumberTooWide, OpenComment, NoMemory}
use Rattle.explain_scopes.proofs.Stepping.{no_tokens}
use Rattle.explain_scopes.proofs.lexed.lexed.Goals as goal

pub returns-in-Err-BadChar : goal.returns-in-Err-BadChar
returns-in-Err-BadChar c =
    let one = c.tokens.ensures.one_answer in
    no_tokens c.args.text.now c.in-Err-BadChar.field-0 one c.in-Err-BadChar.ensures.fault
    (λ none. let other : BadChar c.in-Err-BadChar.field-0-0 ≡ NoMemory = sym c.in-Err-BadChar.field-0-is ∙ none in absurd (cc))

pub returns-in-Err-NumberTooWide : goal.returns-in-Err-NumberTooWide
returns-in-Err-NumberTooWide c =
    let one = c.tokens.ensures.one_answer in
    no_tokens c.args.text.now c.in-Err-NumberTooWide.field-0 one c.in-Err-NumberTooWide.ensures.fault
    (λ none. let other : NumberTooWide c.in-Err-NumberTooWide.field-0-0 ≡ NoMemory = sym c.in-Err-NumberTooWide.field-0-is ∙ none in absurd (cc))

pub returns-in-Err-OpenComment : goal.returns-in-Err-OpenComment
returns-in-Err-OpenComment c =
    let one = c.tokens.ensures.one_answer in
    no_tokens c.args.text.now c.in-Err-OpenComment.field-0 one c.in-Err-OpenComment.ensures.fault
    (λ none. let other : OpenComment c.in-Err-OpenComment.field-0-0 ≡ NoMemory = sym c.in-Err-OpenComment.field-0-is ∙ none in absurd (cc))
