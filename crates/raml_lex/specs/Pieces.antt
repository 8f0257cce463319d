-- What stands at the front of a text that is not empty.
use Rattle.std.specs.Prelude.{◌≡◌, ◌+◌, ◌≤◌, ◌||◌, ℕ, zero, suc, Option, Some, None, [], ◌∷◌, length, take, nat_eq, if◌then◌else◌}
use Rattle.std.specs.Prelude.{option_map, codes, bytes_eq}
use Rattle.std.specs.List.{starts_with, list_any}
use Rattle.raml_syntax.specs.declared.tree.Pos.{Pos}
use Rattle.raml_syntax.specs.Tree.{Text}
use Rattle.raml_lex.specs.declared.token.TokenKind.{TokenKind}
use Rattle.raml_lex.specs.declared.token.TokenKind.TheVariants.{Name, Keyword}
use Rattle.raml_lex.specs.declared.token.LexFault.{LexFault}
use Rattle.raml_lex.specs.declared.token.LexFault.TheVariants.{BadChar, NumberTooWide, OpenComment, NoMemory}
use Rattle.raml_lex.specs.declared.piece.Piece.{Piece}
use Rattle.raml_lex.specs.declared.piece.Piece.TheVariants.{Gap, Word}
use Rattle.raml_lex.specs.Lexemes.{IsInRange, keywords}
use Rattle.raml_lex.specs.Lexing.{IsGap, IsLongest, OpensComment, IsBadChar, IsTooWide, IsOpenComment}

-- the first n bytes of s are white space or a comment
pub record BeginsWithGap (s : Text) (n : ℕ) : Type 0 where
  pub within : n ≤ length s
  pub gap : IsGap (take n s)

-- the first n bytes of s are a token
pub record BeginsWithToken (s : Text) (kind : TokenKind) (n : ℕ) : Type 0 where
  pub within : n ≤ length s
  pub no_comment : ¬ (OpensComment s)
  pub longest : IsLongest kind (take n s) s
  pub in_range : IsInRange kind (take n s)

abbrev pub BeginsWith : Text → Piece → Type 0
BeginsWith s (Gap n) = BeginsWithGap s n
BeginsWith s (Word kind n) = BeginsWithToken s kind n

-- neither white space nor a comment nor a token stands at the front of s, which begins at this place
abbrev pub FaultAt : Pos → Text → LexFault → Type 0
FaultAt place s (BadChar at) = (at ≡ place) × IsBadChar s
FaultAt place s (NumberTooWide at) = (at ≡ place) × IsTooWide s
FaultAt place s (OpenComment at) = (at ≡ place) × IsOpenComment s
FaultAt place s NoMemory = ⊥

-- the length of the longest symbol at the front of s, if there is one
abbrev pub symbol_len : Text → Option ℕ
symbol_len [] = None
symbol_len (c ∷ s) =
    if starts_with nat_eq (c ∷ s) (codes "::") || starts_with nat_eq (c ∷ s)
    (codes "<=") || starts_with nat_eq (c ∷ s) (codes "->") then Some 2
    else (if list_any (λ y. nat_eq y c) (codes "(),:=<+-*|") then Some 1 else None)

abbrev pub word_kind : Text → TokenKind
word_kind w = if list_any (λ keyword. bytes_eq keyword w) keywords then Keyword else Name

-- how many bytes of s it takes to end n open comments, where s ends them
abbrev pub comment_rest : ℕ → Text → Option ℕ
comment_rest zero s = Some 0
comment_rest (suc n) [] = None
comment_rest (suc n) (a ∷ []) = None
comment_rest (suc n) (a ∷ b ∷ s) =
    if starts_with nat_eq (a ∷ b ∷ s) (codes "(*") then option_map (λ k. 2 + k) (comment_rest (suc (suc n)) s)
    else (if starts_with nat_eq (a ∷ b ∷ s) (codes "*)") then option_map (λ k. 2 + k) (comment_rest n s)
    else option_map (λ k. 1 + k) (comment_rest (suc n) (b ∷ s)))
