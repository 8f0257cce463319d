-- What the code's names are as plain data.
use Rattle.std.specs.Prelude.{ℕ, ◌≡◌, All, Option, Some, None, Vec, List, [], ◌∷◌, map, string_bytes}
use Rattle.std.specs.Option.{option_map}
use Rattle.std.specs.Borrow.{Bor}
use Rattle.raml_syntax.specs.Tree as t
use Rattle.raml_syntax.specs.declared.tree.Pos.{Pos}
use Rattle.explain_scopes.specs.Scopes as s
use Rattle.explain_scopes.specs.declared.occurrence.Bound.{Bound}
use Rattle.explain_scopes.specs.declared.occurrence.Occurrence.{Occurrence}
use Rattle.explain_scopes.specs.Named as n
use Rattle.explain_scopes.specs.Sources.{HasNoNames, OfNames}
use Rattle.explain_scopes.specs.Outline as o
use Rattle.explain_scopes.specs.Renaming.{Outcome, Parts, Refused, IsRenaming}
use Rattle.raml_lex.specs.Lexing.{Spelled, StandsIn}
use Rattle.raml_lex.specs.declared.token.Token as l
use Rattle.lsp_language.specs.declared.names.Symbol.{Symbol}
use Rattle.lsp_language.specs.declared.names.Renaming.{Renaming}
use Rattle.lsp_language.specs.declared.names.Renaming.TheVariants as w
use Rattle.lsp_language.specs.declared.names.Refusal.TheVariants as r
use Rattle.lsp_language.specs.declared.names.Named.{Named}
use Rattle.lsp_language.specs.declared.span.Span.{Span}
use Rattle.explain_scopes.specs.declared.source.Source.{Source}
use Rattle.std.specs.Global.{Global}
use Rattle.parse_table.specs.Tokens.{Token}
use Rattle.parse_table.specs.declared.token.Piece.{Piece}
use Rattle.raml_syntax.specs.declared.program.Program.{Program}
use Rattle.parse_table.specs.Read.{pieces}
use Rattle.raml_parse.specs.Spelling.{HasTokens, Spells}
use Rattle.raml_syntax.specs.Read.{program_of}
use Rattle.raml_syntax.specs.Tree.{Text, Prog}
use Rattle.explain_scopes.specs.declared.scope.Scope.{Scope}
use Rattle.explain_scopes.specs.declared.scope.Scope.TheOpen as folded
use Rattle.explain_scopes.specs.declared.scope.Scope.TheFolds.{fold-Scope}

abbrev pub bound_of : Bound → t.Bound
bound_of b = record { at = b.at.0; name = b.name.now }

abbrev pub bounds_of : List Bound → List t.Bound
bounds_of = map bound_of

abbrev pub places_of : List Pos → List ℕ
places_of = map (λ (p : Pos). p.0)

abbrev pub place_in : Option Pos → Option ℕ
place_in = option_map (λ (p : Pos). p.0)

abbrev pub occurrence_of : Occurrence → s.Occurrence
occurrence_of o = record { at = o.at.0; name = o.name.now; kind = o.kind; binding = place_in o.binding }

abbrev pub occurrences_of : List Occurrence → List s.Occurrence
occurrences_of = map occurrence_of

abbrev pub scope_step : folded.Scope-F s.Scope → s.Scope
scope_step folded.Empty = []
scope_step (folded.More newest outer) = bound_of newest ∷ outer.now

abbrev pub scope_of : Scope → s.Scope
scope_of = fold-Scope s.Scope scope_step

-- the tokens of a text; none where it has none
abbrev pub AreLexed : Text → Option (Vec l.Token Global) → Type 0
AreLexed text (Some found) = Spelled text found.items × All (StandsIn text) found.items
AreLexed text None = (ts : List l.Token) → Spelled text ts → ⊥

-- the same as the grammar sees them
abbrev pub AreTokens : Text → Option (Vec Piece Global) → Type 0
AreTokens text (Some found) = HasTokens text (pieces found.items)
AreTokens text None = (ts : List Token) → HasTokens text ts → ⊥

-- the program that a source spells; none where it spells none
abbrev pub IsProgram : Text → Option Program → Type 0
IsProgram source (Some program) = Spells source (program_of program)
IsProgram source None = (P : Prog) → Spells source P → ⊥

-- the program that the source spells, and its tokens
abbrev pub IsReadOf : Source → Type 0
IsReadOf read = Spells read.bytes.now (program_of read.program) × HasTokens read.bytes.now (pieces read.tokens.items)

-- what is read of a source; none where it spells no program
abbrev pub IsRead : Text → Option Source → Type 0
IsRead source (Some read) = (read.bytes.now ≡ source) × IsReadOf read
IsRead source None = HasNoNames source

abbrev pub plain_part : Span → n.Part
plain_part p = record { start = p.start; end = p.end }

abbrev pub plain_parts : List Span → List n.Part
plain_parts = map plain_part

abbrev pub plain_named : Named → n.Named
plain_named named = record { binding = plain_part named.binding; uses = plain_parts named.uses.items }

abbrev pub occurrence_in : Bor Occurrence → s.Occurrence
occurrence_in name = occurrence_of name.now

-- what is named at the byte
abbrev pub IsNamedAt : Text → ℕ → Option Named → Type 0
IsNamedAt source offset named =
    OfNames source (λ os. option_map plain_named named ≡ n.named offset os) (option_map plain_named named ≡ None)

abbrev pub plain_symbol : Symbol → o.Symbol
plain_symbol symbol = record { name = string_bytes symbol.name; whole = plain_part symbol.whole; binding = plain_part symbol.binding }

abbrev pub plain_symbols : List Symbol → List o.Symbol
plain_symbols = map plain_symbol

-- the functions of the text
abbrev pub IsOutline : Text → List Symbol → Type 0
IsOutline text found = o.AreOutline text (plain_symbols found)

abbrev pub plain_outcome : Renaming → Outcome
plain_outcome (w.Parts parts) = Parts (plain_parts parts.items)
plain_outcome (w.Refused why) = Refused why

-- what comes of this name for what is named at the byte
abbrev pub IsRenamedAt : Text → ℕ → Text → Renaming → Type 0
IsRenamedAt source offset x outcome =
    OfNames source (λ os. IsRenaming os offset x (plain_outcome outcome)) (plain_outcome outcome ≡ Refused r.Nothing)
