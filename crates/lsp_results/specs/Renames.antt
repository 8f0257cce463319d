-- Another name for what is named in a text.
use Rattle.std.specs.Prelude.{◌≡◌, ℕ, Bool, cond, ◌&&◌, nat_le, List, [], ◌∷◌, map, codes, Option, None, Some, Ok, Err}
use Rattle.serde_json.specs.Data.{Data, null, string, object, member, no_members}
use Rattle.lsp_positions.specs.Positions.{offset_of}
use Rattle.lsp_positions.specs.declared.position.Encoding.{Encoding}
use Rattle.lsp_positions.specs.declared.position.Position.{Position}
use Rattle.lsp_language.specs.Telling.{Telling}
use Rattle.lsp_language.specs.declared.names.Named.{Named}
use Rattle.lsp_language.specs.declared.names.Refusal.{Refusal}
use Rattle.lsp_language.specs.declared.names.Refusal.TheVariants as refusal
use Rattle.lsp_language.specs.declared.names.Renaming.{Renaming}
use Rattle.lsp_language.specs.declared.names.Renaming.TheVariants.{Parts, Refused}
use Rattle.lsp_language.specs.declared.span.Span.{Span}
use Rattle.lsp_requests.specs.declared.code.ErrorCode.TheVariants.{RequestFailed}
use Rattle.lsp_requests.specs.declared.code.Failure.{Failure}
use Rattle.lsp_requests.specs.declared.code.Failure.TheVariants.{NothingNamed, NoName, NameInUse}
use Rattle.lsp_results.specs.Places.{list_json, end_of, span_json}
use Rattle.lsp_results.specs.Actions.{workspace_json}
use Rattle.lsp_results.specs.Answers.{Answer}

-- the place is one of the part, or its end
abbrev pub is_at : ℕ → Span → Bool
is_at place span = nat_le span.start place && nat_le place (end_of span)

-- the first of them that the place is at
abbrev pub part_at : ℕ → List Span → Option Span
part_at place [] = None
part_at place (span ∷ spans) = cond (is_at place span) (Some span) (part_at place spans)

abbrev pub span_or_null : Encoding → List ℕ → Option Span → Data
span_or_null encoding text None = null
span_or_null encoding text (Some span) = span_json encoding text span

-- The part in which the name stands at a place: its binding, or a use. It is null where nothing is named.
abbrev pub prepared_json : Encoding → List ℕ → ℕ → Option Named → Data
prepared_json encoding text place None = null
prepared_json encoding text place (Some named) = span_or_null encoding text (part_at place (named.binding ∷ named.uses.items))

-- the name in place of a part
abbrev pub rename_json : Encoding → List ℕ → List ℕ → Span → Data
rename_json encoding text name span =
    object (member (codes "newText") (string name) (member (codes "range") (span_json encoding text span) no_members))

abbrev pub renames_json : Encoding → List ℕ → List ℕ → List Span → Data
renames_json encoding text name spans = list_json (map (rename_json encoding text name) spans)

abbrev pub failure_of : Refusal → Failure
failure_of refusal.Nothing = NothingNamed
failure_of refusal.NoName = NoName
failure_of refusal.InUse = NameInUse

abbrev pub renaming_answer : Encoding → List ℕ → List ℕ → List ℕ → Renaming → Answer
renaming_answer encoding text uri name (Parts parts) = Ok (workspace_json uri (renames_json encoding text name parts.items))
renaming_answer encoding text uri name (Refused refusal) = Err (RequestFailed (failure_of refusal))

-- What is answered where this name is wanted for what stands at a position, by what the language tells of it.
abbrev pub IsRenamed : Telling → Encoding → List ℕ → List ℕ → Position → List ℕ → Answer → Type 0
IsRenamed tells encoding text uri position name answer =
    (renaming : Renaming) × tells.renamed text (offset_of encoding text position) name renaming × (answer ≡ renaming_answer encoding text uri name renaming)
