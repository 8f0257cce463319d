-- No result has a number with a fraction.
use Rattle.std.proofs.Common.{◌≡◌, ℕ, ℤ, pos, negsuc, List, [], ◌∷◌, map, Bool, false, Option, None, Some, Result, Ok, Err, IfOk, refl, sym, ap, subst, ◌∙◌}
use Rattle.std.specs.List.{filter}
use Rattle.std.specs.Prelude.{string_bytes, option_map}
use Rattle.std.specs.declared.alloc.AllocError.{AllocError}
use Rattle.serde_json.specs.Data.{Data, number}
use Rattle.serde_json.specs.Find.{of_integer, is_float}
use Rattle.serde_json.specs.Written.{has_float, members_have_float}
use Rattle.serde_json.specs.View.{view}
use Rattle.serde_json.specs.declared.value.Value.{Value}
use Rattle.lsp_positions.specs.declared.position.Encoding.{Encoding}
use Rattle.lsp_positions.specs.declared.position.Encoding.TheVariants.{Utf16, Utf8}
use Rattle.lsp_positions.specs.Positions.{offset_of}
use Rattle.lsp_language.specs.Telling.{Telling}
use Rattle.lsp_language.specs.declared.insight.Hover.{Hover}
use Rattle.lsp_language.specs.declared.insight.Action.{Action}
use Rattle.lsp_language.specs.declared.insight.Diagnostic.{Diagnostic}
use Rattle.lsp_language.specs.declared.insight.Insight.{Insight}
use Rattle.lsp_language.specs.declared.names.Named.{Named}
use Rattle.lsp_language.specs.declared.names.Renaming.{Renaming}
use Rattle.lsp_language.specs.declared.names.Renaming.TheVariants.{Parts, Refused}
use Rattle.lsp_language.specs.declared.span.Span.{Span}
use Rattle.lsp_requests.specs.declared.code.ErrorCode.{ErrorCode}
use Rattle.lsp_positions.specs.declared.position.Position.{Position}
use Rattle.lsp_params.specs.declared.asking.Ask.{Ask}
use Rattle.lsp_params.specs.declared.asking.Ask.TheVariants as a
use Rattle.lsp_params.specs.declared.asking.NamesAsk.{NamesAsk}
use Rattle.lsp_params.specs.declared.asking.NamesAsk.TheVariants as n
use Rattle.lsp_results.specs.Places.{list_json}
use Rattle.lsp_results.specs.Hovers.{hover_or_null}
use Rattle.lsp_results.specs.Marks.{lens_json, hint_json, is_between}
use Rattle.lsp_results.specs.Actions.{meets, edit_json, edits_json, action_json}
use Rattle.lsp_results.specs.Diagnostics.{related_json, all_related_json, diagnostic_members, with_code, code_of, diagnostic_json, diagnostics_json, published_json}
use Rattle.lsp_results.specs.Capabilities.{initialized_json}
use Rattle.lsp_results.specs.Names.{IsOfNames, definition_json, highlight_json, highlights_json, location_of, places_of, references_json}
use Rattle.lsp_results.specs.Answers.{Answer, IsPlain, answer_view}
use Rattle.lsp_results.specs.Outline.{symbol_json, fold_json, has_lines}
use Rattle.lsp_results.specs.Renames.{IsRenamed, part_at, prepared_json, rename_json, renaming_answer, span_or_null}
use Rattle.lsp_results.specs.Results.{IsResult}

pub plain_by : (r : Result Value AllocError) (d : Data) → has_float d ≡ false → IfOk r (λ v. view v ≡ d) → IfOk r (λ v. has_float (view v) ≡ false)
plain_by (Ok v) d plain is = ap has_float is ∙ plain
plain_by (Err e) d plain is = is

list_plain : {A : Type 0} (f : A → Data) → ((x : A) → has_float (f x) ≡ false) → (xs : List A) → has_float (list_json (map f xs)) ≡ false
list_plain f plain [] = refl
list_plain f plain (x ∷ xs) = rw (plain x) (list_plain f plain xs)

hover_plain : (encoding : Encoding) (text : List ℕ) (hover : Option Hover) → has_float (hover_or_null encoding text hover) ≡ false
hover_plain encoding text None = refl
hover_plain encoding text (Some hover) = refl

action_plain : (encoding : Encoding) (text uri : List ℕ) (action : Action) → has_float (action_json encoding text uri action) ≡ false
action_plain encoding text uri action = rw (list_plain (edit_json encoding text) (λ edit. refl) action.edits.items) refl

places_plain : (encoding : Encoding) (text uri : List ℕ) (declared : Bool) (named : Option Named) → has_float (references_json encoding text uri declared named) ≡ false
places_plain encoding text uri declared None = refl
places_plain encoding text uri declared (Some named) = list_plain (location_of encoding text uri) (λ span. refl) (places_of declared named)

highlights_plain : (encoding : Encoding) (text : List ℕ) (named : Option Named) → has_float (highlights_json encoding text named) ≡ false
highlights_plain encoding text None = refl
highlights_plain encoding text (Some named) = list_plain (highlight_json encoding text 2) (λ span. refl) named.uses.items

definition_plain : (encoding : Encoding) (text uri : List ℕ) (named : Option Named) → has_float (definition_json encoding text uri named) ≡ false
definition_plain encoding text uri None = refl
definition_plain encoding text uri (Some named) = refl

span_plain : (encoding : Encoding) (text : List ℕ) (span : Option Span) → has_float (span_or_null encoding text span) ≡ false
span_plain encoding text None = refl
span_plain encoding text (Some span) = refl

prepared_plain : (encoding : Encoding) (text : List ℕ) (place : ℕ) (named : Option Named) → has_float (prepared_json encoding text place named) ≡ false
prepared_plain encoding text place None = refl
prepared_plain encoding text place (Some named) = span_plain encoding text (part_at place (named.binding ∷ named.uses.items))

names_plain : (tells : Telling) (encoding : Encoding) (text uri : List ℕ) (asked : NamesAsk) (d : Data) → IsOfNames tells encoding text uri asked d → has_float d ≡ false
names_plain tells encoding text uri (n.Definition position) d is = ap has_float is.2 ∙ definition_plain encoding text uri is.0
names_plain tells encoding text uri (n.References position declared) d is = ap has_float is.2 ∙ places_plain encoding text uri declared is.0
names_plain tells encoding text uri (n.Highlights position) d is = ap has_float is.2 ∙ highlights_plain encoding text is.0
names_plain tells encoding text uri n.Symbols d is = ap has_float is.2 ∙ list_plain (symbol_json encoding text) (λ symbol. refl) is.0
names_plain tells encoding text uri n.Folds d is =
    ap has_float is.2 ∙ list_plain (fold_json encoding text) (λ symbol. refl) (filter (has_lines encoding text) is.0)
names_plain tells encoding text uri (n.Prepare position) d is =
    ap has_float is.2 ∙ prepared_plain encoding text (offset_of encoding text position) is.0

result_plain : (tells : Telling) (encoding : Encoding) (text uri : List ℕ) (insight : Insight) (ask : Ask) (d : Data) → IsResult tells encoding text uri insight ask d →
    has_float d ≡ false
result_plain tells encoding text uri insight (a.Hover position) d is = ap has_float is.is ∙ hover_plain encoding text is.hover
result_plain tells encoding text uri insight a.Lenses d is = ap has_float is ∙ list_plain (lens_json encoding text) (λ lens. refl) insight.lenses.items
result_plain tells encoding text uri insight (a.Hints range) d is =
    ap has_float is ∙ list_plain (hint_json encoding text) (λ hint. refl)
    (filter (is_between (offset_of encoding text range.start) (offset_of encoding text range.end)) insight.hints.items)
result_plain tells encoding text uri insight (a.Names asked) d is = names_plain tells encoding text uri asked d is
result_plain tells encoding text uri insight (a.Actions range) d is =
    ap has_float is ∙ list_plain (action_json encoding text uri) (action_plain encoding text uri)
    (filter (meets (offset_of encoding text range.start) (offset_of encoding text range.end)) insight.actions.items)

pub results_plain : (tells : Telling) (encoding : Encoding) (text uri : List ℕ) (insight : Insight) (ask : Ask) (r : Result Value AllocError) →
    IfOk r (λ v. IsResult tells encoding text uri insight ask (view v)) → IfOk r (λ v. has_float (view v) ≡ false)
results_plain tells encoding text uri insight ask (Ok v) is = result_plain tells encoding text uri insight ask (view v) is
results_plain tells encoding text uri insight ask (Err e) is = is

renaming_plain : (encoding : Encoding) (text uri name : List ℕ) (renaming : Renaming) → IsPlain (renaming_answer encoding text uri name renaming)
renaming_plain encoding text uri name (Parts parts) = rw (list_plain (rename_json encoding text name) (λ span. refl) parts.items) refl
renaming_plain encoding text uri name (Refused refusal) = tt

pub renamed_plain : (tells : Telling) (encoding : Encoding) (text uri : List ℕ) (position : Position) (name : List ℕ) (r : Result (Result Value ErrorCode) AllocError) →
    IfOk r (λ a. IsRenamed tells encoding text uri position name (answer_view a)) → IfOk r (λ a. IsPlain (answer_view a))
renamed_plain tells encoding text uri position name (Ok a) is = subst IsPlain (sym is.2) (renaming_plain encoding text uri name is.0)
renamed_plain tells encoding text uri position name (Err e) is = is

code_plain : (encoding : Encoding) (text uri : List ℕ) (diagnostic : Diagnostic) (code : Option (List ℕ)) →
    members_have_float (with_code code (diagnostic_members encoding text uri diagnostic)) ≡ false
code_plain encoding text uri diagnostic None = rw (list_plain (related_json encoding text uri) (λ related. refl) diagnostic.related.items) refl
code_plain encoding text uri diagnostic (Some code) = rw (list_plain (related_json encoding text uri) (λ related. refl) diagnostic.related.items) refl

pub diagnostics_plain : (encoding : Encoding) (text uri : List ℕ) (diagnostics : List Diagnostic) →
    has_float (diagnostics_json encoding text uri diagnostics) ≡ false
diagnostics_plain encoding text uri =
    list_plain (diagnostic_json encoding text uri) (λ diagnostic. code_plain encoding text uri diagnostic (code_of diagnostic))

integer_plain : (n : ℤ) → is_float (of_integer n) ≡ false
integer_plain (pos n) = refl
integer_plain (negsuc n) = refl

pub published_plain : (uri : List ℕ) (version : ℤ) (diagnostics : Data) → has_float diagnostics ≡ false → has_float (published_json uri version diagnostics) ≡ false
published_plain uri version diagnostics plain = rw plain (rw (integer_plain version) refl)

pub initialized_plain : (encoding : Encoding) → has_float (initialized_json encoding) ≡ false
initialized_plain Utf16 = refl
initialized_plain Utf8 = refl
