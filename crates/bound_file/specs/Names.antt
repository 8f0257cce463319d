-- Tokens of which there is one, which is a name.
use Rattle.std.specs.Prelude.{ℕ, Bool, true, false, ◌&&◌, ◌==◌, List, [], ◌∷◌}
use Rattle.raml_lex.specs.declared.token.Token.{Token}
use Rattle.raml_lex.specs.declared.token.LexFault.{LexFault}
use Rattle.raml_lex.specs.declared.token.LexFault.TheVariants.{NoMemory}
use Rattle.raml_lex.specs.declared.token.TokenKind.{TokenKind}
use Rattle.raml_lex.specs.declared.token.TokenKind.TheVariants.{Name}

abbrev pub is_name_kind : TokenKind → Bool
is_name_kind Name = true
is_name_kind _ = false

-- the token is a name of this many bytes, from the first one on
abbrev pub is_whole_name : List Token → ℕ → Bool
is_whole_name [] len = false
is_whole_name (token ∷ []) len = is_name_kind token.kind && (token.at.0 == 0 && token.end.0 == len)
is_whole_name (token ∷ next ∷ tokens) len = false

abbrev pub is_want : LexFault → Bool
is_want NoMemory = true
is_want _ = false
