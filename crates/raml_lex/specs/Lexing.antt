-- The tokens of a text by longest match, and its first lexical fault.
use Rattle.std.specs.Prelude.{◌≡◌, ◌+◌, ◌^◌, ◌<◌, ◌≤◌, ◌⊎◌, ℕ, List, [], ◌∷◌, ◌++◌, length, drop, slice_range, IsTrue, IsCharBoundary}
use Rattle.std.specs.Prelude.{AllPairs, Result, Ok, Err, codes}
use Rattle.raml_syntax.specs.Tree.{Text}
use Rattle.raml_lex.specs.declared.token.TokenKind.{TokenKind}
use Rattle.raml_lex.specs.declared.token.TokenKind.TheVariants.{Number}
use Rattle.raml_lex.specs.declared.token.Token.{Token}
use Rattle.raml_lex.specs.declared.token.LexFault.{LexFault}
use Rattle.raml_lex.specs.declared.token.LexFault.TheVariants.{BadChar, NumberTooWide, OpenComment, NoMemory}
use Rattle.raml_lex.specs.Lexemes.{IsFront, is_space, IsLexeme, IsInRange, IsComment, number_value}

-- w stands at the front of s and is a lexeme of the kind, and no longer front of s is a lexeme
pub record IsLongest (kind : TokenKind) (w s : Text) : Type 0 where
  pub front : IsFront w s
  pub lexeme : IsLexeme kind w
  pub longest : (other : TokenKind) (v : Text) → IsFront v s → IsLexeme other v → length v ≤ length w

-- what may stand between tokens: one byte of white space, or a whole comment
abbrev pub IsGap : Text → Type 0
IsGap w = ((c : ℕ) × IsTrue (is_space c) × (w ≡ c ∷ [])) ⊎ IsComment w

-- `(*` stands at the front of s
abbrev pub OpensComment : Text → Type 0
OpensComment s = IsFront (codes "(*") s

-- the bytes of the token
abbrev pub word : Text → Token → Text
word text t = slice_range text t.at.0 t.end.0

-- The token stands in the text at its place, whatever stands before it. `(*` begins a comment, and no token.
pub record IsTokenOf (text : Text) (t : Token) : Type 0 where
  pub ends : t.end.0 ≡ t.at.0 + length (word text t)
  pub no_comment : ¬ (OpensComment (drop t.at.0 text))
  pub longest : IsLongest t.kind (word text t) (drop t.at.0 text)
  pub in_range : IsInRange t.kind (word text t)

-- the first n bytes of the text are cut, in order, into white space, whole comments and these tokens
pub data Cut (text : Text) : ℕ → List Token → Type 0 where
  start : Cut text 0 []
  gap :
      {n m : ℕ} {ts : List Token} {w : Text}
      → Cut text n ts → IsFront w (drop n text) → IsGap w → m ≡ n + length w
      → Cut text m ts
  token :
      {n m : ℕ} {t : Token} {ts us : List Token}
      → Cut text n ts → IsTokenOf text t → t.at.0 ≡ n → t.end.0 ≡ m → us ≡ ts ++ t ∷ []
      → Cut text m us

-- the whole text is cut into white space, comments and these tokens
abbrev pub Spelled : Text → List Token → Type 0
Spelled text ts = Cut text (length text) ts

-- the character at the front of s is no white space, and neither a comment nor a token begins with it
pub record IsBadChar (s : Text) : Type 0 where
  pub first : ℕ
  pub rest : Text
  pub is : s ≡ first ∷ rest
  pub no_space : ¬ (IsTrue (is_space first))
  pub no_comment : ¬ (OpensComment s)
  pub no_token : (kind : TokenKind) (w : Text) → IsFront w s → ¬ (IsLexeme kind w)

-- the digits at the front of s are a number above 9223372036854775807
pub record IsTooWide (s : Text) : Type 0 where
  pub digits : Text
  pub longest : IsLongest Number digits s
  pub too_wide : 2 ^ 63 ≤ number_value digits

-- a comment begins at the front of s, and has no end
pub record IsOpenComment (s : Text) : Type 0 where
  pub opens : OpensComment s
  pub no_end : (w : Text) → IsFront w s → ¬ (IsComment w)

-- the text is cut up to byte n into white space, whole comments and tokens, and the rest is as P says
abbrev pub StopsAt : Text → ℕ → (Text → Type 0) → Type 0
StopsAt text n P = ((ts : List Token) × Cut text n ts) × P (drop n text)

-- the first fault of the text: what stands before it is white space, whole comments and tokens
abbrev pub FirstFault : Text → LexFault → Type 0
FirstFault text (BadChar at) = StopsAt text at.0 IsBadChar
FirstFault text (NumberTooWide at) = StopsAt text at.0 IsTooWide
FirstFault text (OpenComment at) = StopsAt text at.0 IsOpenComment
FirstFault text NoMemory = ⊥

-- what the text has: tokens, or a first fault
abbrev pub Answers : Text → Result (List Token) LexFault → Type 0
Answers text (Ok ts) = Spelled text ts
Answers text (Err fault) = FirstFault text fault

-- the text has one answer at most
abbrev pub HasOneAnswer : Text → Type 0
HasOneAnswer text = (a b : Result (List Token) LexFault) → Answers text a → Answers text b → a ≡ b

-- the token is some bytes of the text, cut between characters, and spells a lexeme of its kind
pub record StandsIn (text : Text) (t : Token) : Type 0 where
  pub some : t.at.0 < t.end.0
  pub at : IsCharBoundary text t.at.0
  pub end : IsCharBoundary text t.end.0
  pub lexeme : IsLexeme t.kind (word text t)
  pub in_range : IsInRange t.kind (word text t)

-- each token ends before the next begins
abbrev pub AreInOrder : List Token → Type 0
AreInOrder ts = AllPairs (λ t u. t.end.0 ≤ u.at.0) ts
