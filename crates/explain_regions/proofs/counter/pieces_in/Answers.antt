use Rattle.std.proofs.Common.{◌≡◌, ◌∙◌, sym}
use Rattle.raml_lex.specs.declared.token.LexFault.TheVariants.{BadChar, NumberTooWide, OpenComment, NoMemory}
use Rattle.explain_regions.proofs.Lexed.{no_fault}
use Rattle.explain_regions.proofs.counter.pieces_in.Goals as goal

pub unreachable-requires : goal.unreachable-requires
unreachable-requires c =
    let none = no_fault c.args.text.now c.in-Err-BadChar.field-0 c.requires c.tokens.ensures.one_answer c.in-Err-BadChar.ensures.fault in
    let other : BadChar c.in-Err-BadChar.field-0-0 ≡ NoMemory = sym c.in-Err-BadChar.field-0-is ∙ none in
    absurd (cc)

pub unreachable-requires-in-Err-NumberTooWide : goal.unreachable-requires-in-Err-NumberTooWide
unreachable-requires-in-Err-NumberTooWide c =
    let none = no_fault c.args.text.now c.in-Err-NumberTooWide.field-0 c.requires c.tokens.ensures.one_answer c.in-Err-NumberTooWide.ensures.fault in
    let other : NumberTooWide c.in-Err-NumberTooWide.field-0-0 ≡ NoMemory = sym c.in-Err-NumberTooWide.field-0-is ∙ none in
    absurd (cc)

pub unreachable-requires-in-Err-OpenComment : goal.unreachable-requires-in-Err-OpenComment
unreachable-requires-in-Err-OpenComment c =
    let none = no_fault c.args.text.now c.in-Err-OpenComment.field-0 c.requires c.tokens.ensures.one_answer c.in-Err-OpenComment.ensures.fault in
    let other : OpenComment c.in-Err-OpenComment.field-0-0 ≡ NoMemory = sym c.in-Err-OpenComment.field-0-is ∙ none in
    absurd (cc)
