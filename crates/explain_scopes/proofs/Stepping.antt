-- Sources without a program.
use Rattle.std.proofs.Common.{◌≡◌, ◌⊎◌, List, Ok, Err, inl, inr}
use Rattle.raml_lex.specs.Lexing as lex
use Rattle.raml_lex.specs.declared.token.LexFault.{LexFault}
use Rattle.raml_lex.specs.declared.token.LexFault.TheVariants as f
use Rattle.raml_parse.specs.Spelling.{Spells, FirstFault, HasOneAnswer}
use Rattle.raml_parse.specs.declared.fault.ParseFault.{ParseFault}
use Rattle.raml_parse.specs.declared.fault.ParseFault.TheVariants as p
use Rattle.raml_syntax.specs.Tree.{Text, Prog}
use Rattle.raml_lex.specs.declared.token.Token.{Token}

-- a source with a fault has no program, and a text with one no tokens
pub no_program : (source : Text) (fault : ParseFault) → HasOneAnswer source → (fault ≡ p.NoMemory) ⊎ FirstFault source fault → (fault ≡ p.NoMemory → ⊥) →
    (P : Prog) → Spells source P → ⊥
no_program source fault one (inl none) other P spelled = other none
no_program source fault one (inr first) other P spelled = let same = one (Ok P) (Err fault) spelled first in absurd (cc)

pub no_tokens : (text : Text) (fault : LexFault) → lex.HasOneAnswer text → (fault ≡ f.NoMemory) ⊎ lex.FirstFault text fault → (fault ≡ f.NoMemory → ⊥) →
    (ts : List Token) → lex.Spelled text ts → ⊥
no_tokens text fault one (inl none) other ts spelled = other none
no_tokens text fault one (inr first) other ts spelled = let same = one (Ok ts) (Err fault) spelled first in absurd (cc)
