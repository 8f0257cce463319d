-- Another name for what is named.
use Rattle.std.specs.Prelude.{◌≡◌, ◌⊎◌, ℕ, Bool, true, false, not, ◌&&◌, ◌||◌, nat_lt, nat_le, List, [], ◌∷◌, cond, Option, Some}
use Rattle.std.specs.Str.{bytes_eq}
use Rattle.raml_syntax.specs.Tree.{Text}
use Rattle.raml_lex.specs.Lexing.{Spelled, word}
use Rattle.raml_lex.specs.declared.token.Token.{Token}
use Rattle.lsp_language.specs.declared.names.Refusal.{Refusal}
use Rattle.lsp_language.specs.declared.names.Refusal.TheVariants as r
use Rattle.explain_scopes.specs.declared.occurrence.Kind.{Kind}
use Rattle.explain_scopes.specs.declared.occurrence.Kind.TheVariants as k
use Rattle.explain_scopes.specs.Outline.{is_name, HasNoTokens}
use Rattle.explain_scopes.specs.Scopes.{Occurrence}
use Rattle.explain_scopes.specs.Named.{Part, Named, is_place, met_at, named}

-- the text is one token, and that is a name
abbrev pub is_one_name : Text → List Token → Bool
is_one_name x (t ∷ []) = is_name t.kind && bytes_eq (word x t) x
is_one_name x _ = false

-- whether the text is a name of the language
abbrev pub IsNameTold : Text → Bool → Type 0
IsNameTold x told = ((ts : List Token) × Spelled x ts × (told ≡ is_one_name x ts)) ⊎ (HasNoTokens x × (told ≡ false))

abbrev pub is_function : Kind → Bool
is_function k.Function = true
is_function k.Variable = false

abbrev pub same_kind : Kind → Kind → Bool
same_kind k.Function j = is_function j
same_kind k.Variable j = not (is_function j)

-- a function gets its name here
abbrev pub heads : Occurrence → Bool
heads o = is_function o.kind && is_place o.at o.binding

-- a function gets its name behind one place, and not behind another
abbrev pub parts_at : ℕ → ℕ → List Occurrence → Bool
parts_at p q [] = false
parts_at p q (o ∷ os) = heads o && (nat_lt p o.at && nat_le o.at q) || parts_at p q os

-- both places are in one function
abbrev pub in_one : ℕ → ℕ → List Occurrence → Bool
in_one p q os = not (parts_at p q os) && not (parts_at q p os)

-- it has this name, and a thing of the name at `met` that got this name, too, could be taken for it: a function may be called anywhere, and a
-- variable is of one function
abbrev pub takes : List Occurrence → Occurrence → Text → Occurrence → Bool
takes os met x o = same_kind met.kind o.kind && bytes_eq o.name x && (is_function met.kind || in_one met.at o.at os)

abbrev pub any_takes : List Occurrence → Occurrence → Text → List Occurrence → Bool
any_takes os met x [] = false
any_takes os met x (o ∷ rest) = takes os met x o || any_takes os met x rest

abbrev pub in_use : List Occurrence → Occurrence → Text → Bool
in_use os met x = any_takes os met x os

-- the parts in which the name is to stand, or why it may not
pub data Outcome : Type 0 where
  Parts : List Part → Outcome
  Refused : Refusal → Outcome

abbrev pub parts_of : Named → Outcome
parts_of found = Parts (found.binding ∷ found.uses)

-- what comes of a name of the language for what this name names
abbrev pub renamed_to : List Occurrence → Text → Occurrence → Named → Outcome
renamed_to os x met found = cond (in_use os met x) (Refused r.InUse) (parts_of found)

abbrev pub IsRenamed : List Occurrence → Text → Option Occurrence → Option Named → Outcome → Type 0
IsRenamed os x (Some met) (Some found) outcome =
    (told : Bool) × IsNameTold x told × (outcome ≡ cond told (renamed_to os x met found) (Refused r.NoName))
IsRenamed os x _ _ outcome = outcome ≡ Refused r.Nothing

-- What comes of a name for what the name names that the byte meets.
abbrev pub IsRenaming : List Occurrence → ℕ → Text → Outcome → Type 0
IsRenaming os offset x outcome = IsRenamed os x (met_at offset os) (named offset os) outcome
