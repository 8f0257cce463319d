-- Short texts with their tokens or their first lexical fault, worked out by hand.
use Rattle.std.specs.Prelude.{ℕ, [], ◌∷◌, codes}
use Rattle.raml_lex.specs.Lexing.{Spelled, FirstFault}
use Rattle.raml_lex.specs.declared.token.Token.{Token}
use Rattle.raml_lex.specs.declared.token.TokenKind.{TokenKind}
use Rattle.raml_lex.specs.declared.token.TokenKind.TheVariants.{Name, Keyword, Number, Symbol}
use Rattle.raml_lex.specs.declared.token.LexFault.TheVariants.{BadChar, NumberTooWide, OpenComment}

-- from its first byte to the one behind its last
abbrev pub token : TokenKind → ℕ → ℕ → Token
token kind from to = record { at = record { 0 = from }; end = record { 0 = to }; kind = kind }

pub record LexedTexts : Type 0 where
  -- a name is as long as it can be, and a comment ends with the `*)` that belongs to it
  pub words : Spelled (codes "nilx nil(*a(**)*)let'") (token Name 0 4 ∷ token Keyword 5 8 ∷ token Name 17 21 ∷ [])
  -- so is a symbol; zeros may stand in front of a number
  pub symbols : Spelled (codes "x<=::->007")
      (token Name 0 1 ∷ token Symbol 1 3 ∷ token Symbol 3 5 ∷ token Symbol 5 7 ∷ token Number 7 10 ∷ [])
  -- no token begins with a capital letter
  pub bad : FirstFault (codes "a X") (BadChar (record { 0 = 2 }))
  pub wide : FirstFault (codes "7 9223372036854775808") (NumberTooWide (record { 0 = 2 }))
  pub endless : FirstFault (codes "x (*(**)") (OpenComment (record { 0 = 2 }))
