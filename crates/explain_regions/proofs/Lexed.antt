-- A text with tokens has no lexical fault.
use Rattle.std.proofs.Common.{◌≡◌, ◌⊎◌, Ok, Err, inl, inr}
use Rattle.raml_syntax.specs.Tree.{Text}
use Rattle.raml_lex.specs.Lexing as lex
use Rattle.raml_lex.specs.declared.token.LexFault.{LexFault}
use Rattle.raml_lex.specs.declared.token.LexFault.TheVariants.{NoMemory}
use Rattle.explain_regions.specs.Counter.{IsLexed}

pub no_fault : (text : Text) (fault : LexFault) → IsLexed text → lex.HasOneAnswer text → (fault ≡ NoMemory) ⊎ lex.FirstFault text fault → fault ≡ NoMemory
no_fault text fault is one (inl none) = none
no_fault text fault is one (inr first) =
    let same = one (Ok is.has.lexed) (Err fault) is.has.spelled first in
    absurd (cc)
