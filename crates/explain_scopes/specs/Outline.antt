-- The functions of a text, as an outline shows them: by its tokens, so that it need not spell a program.
use Rattle.std.specs.Prelude.{◌≡◌, ◌<◌, ◌^◌, ◌⊎◌, ℕ, Bool, true, false, List, [], ◌∷◌, ◌++◌, cond, codes, length}
use Rattle.std.specs.Str.{bytes_eq}
use Rattle.raml_syntax.specs.Tree.{Text}
use Rattle.raml_lex.specs.Lexing.{Spelled, word}
use Rattle.raml_lex.specs.declared.token.Token.{Token}
use Rattle.raml_lex.specs.declared.token.TokenKind.{TokenKind}
use Rattle.raml_lex.specs.declared.token.TokenKind.TheVariants as k
use Rattle.explain_scopes.specs.Named.{Part}

-- a function: its name, all of it, and where it gets its name
pub record Symbol : Type 0 where
  pub name : Text
  pub whole : Part
  pub binding : Part

abbrev pub begins : Text → Token → Bool
begins text t = bytes_eq (word text t) (codes "fun")

abbrev pub is_name : TokenKind → Bool
is_name k.Name = true
is_name _ = false

-- where the last of these tokens before the next function ends, behind one that ends here
abbrev pub last_end : Text → ℕ → List Token → ℕ
last_end text end [] = end
last_end text end (t ∷ ts) = cond (begins text t) end (last_end text t.end.0 ts)

abbrev pub part_of : Token → Part
part_of t = record { start = t.at.0; end = t.end.0 }

-- the function of this `fun`, with its name and what is behind that
abbrev pub symbol : Text → Token → Token → List Token → Symbol
symbol text t u ts =
    record { name = word text u; whole = record { start = t.at.0; end = last_end text u.end.0 ts }; binding = part_of u }

-- the function that begins with this token, if one does: a `fun` with a name behind it
abbrev pub symbols_at : Text → Token → List Token → List Symbol
symbols_at text t [] = []
symbols_at text t (u ∷ ts) = cond (begins text t) (cond (is_name u.kind) (symbol text t u ts ∷ []) []) []

abbrev pub symbols : Text → List Token → List Symbol
symbols text [] = []
symbols text (t ∷ ts) = symbols_at text t ts ++ symbols text ts

abbrev pub HasNoTokens : Text → Type 0
HasNoTokens text = length text < 2 ^ 31 → (ts : List Token) → Spelled text ts → ⊥

-- the functions of a text; none where it has no tokens
abbrev pub AreOutline : Text → List Symbol → Type 0
AreOutline text found = ((ts : List Token) × Spelled text ts × (found ≡ symbols text ts)) ⊎ (HasNoTokens text × (found ≡ []))
