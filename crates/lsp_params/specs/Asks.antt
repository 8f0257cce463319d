-- What requests on a text ask.
use Rattle.std.specs.Prelude.{ℕ, Bool, List, codes, Option, None, Some, option_map, option_and_then}
use Rattle.serde_json.specs.Data.{Data}
use Rattle.serde_json.specs.Find.{get}
use Rattle.lsp_params.specs.Json.{text_in, truth_in, position_in, range_in}
use Rattle.lsp_positions.specs.declared.position.Position.{Position}
use Rattle.lsp_params.specs.declared.asking.Subject.{Subject}
use Rattle.lsp_params.specs.declared.asking.Subject.TheVariants as subject
use Rattle.lsp_params.specs.declared.asking.Ask.{Ask}
use Rattle.lsp_params.specs.declared.asking.Ask.TheVariants.{Hover, Lenses, Hints, Actions, Names}
use Rattle.lsp_params.specs.declared.asking.NamesSubject.{NamesSubject}
use Rattle.lsp_params.specs.declared.asking.NamesSubject.TheVariants as names
use Rattle.lsp_params.specs.declared.asking.NamesAsk.{NamesAsk}
use Rattle.lsp_params.specs.declared.asking.NamesAsk.TheVariants.{Definition, References, Highlights, Symbols, Folds, Prepare}

-- the document of which it is asked
abbrev pub uri_of : Data → Option (List ℕ)
uri_of params = option_and_then (text_in (codes "uri")) (get (codes "textDocument") params)

-- whether the place of the binding is wanted beside those of uses
abbrev pub declares : Data → Option Bool
declares params = option_and_then (truth_in (codes "includeDeclaration")) (get (codes "context") params)

-- of names: a definition, references, highlights and what prepares another name name a position
abbrev pub names_ask_of : NamesSubject → Data → Option NamesAsk
names_ask_of names.Definition params = option_map Definition (position_in (codes "position") params)
names_ask_of names.References params =
    option_and_then (λ position. option_map (References position) (declares params)) (position_in (codes "position") params)
names_ask_of names.Highlights params = option_map Highlights (position_in (codes "position") params)
names_ask_of names.Symbols params = Some Symbols
names_ask_of names.Folds params = Some Folds
names_ask_of names.Prepare params = option_map Prepare (position_in (codes "position") params)

-- A hover names a position, inlay hints and actions a range.
abbrev pub ask_of : Subject → Data → Option Ask
ask_of subject.Hover params = option_map Hover (position_in (codes "position") params)
ask_of subject.Lenses params = Some Lenses
ask_of subject.Hints params = option_map Hints (range_in (codes "range") params)
ask_of subject.Actions params = option_map Actions (range_in (codes "range") params)
ask_of (subject.Names about) params = option_map Names (names_ask_of about params)

-- a document, and what is asked of it
abbrev pub asked_of : Subject → Data → Option (List ℕ × Ask)
asked_of subject params = option_and_then (λ uri. option_map (λ ask. (uri, ask)) (ask_of subject params)) (uri_of params)

-- another name that is wanted for what is named at a position of a document
pub record NewName : Type 0 where
  pub uri : List ℕ
  pub position : Position
  pub name : List ℕ

abbrev pub new_name_of : Data → Option NewName
new_name_of params =
    option_and_then (λ uri. option_and_then (λ position. option_map (λ name. record { uri = uri; position = position; name = name })
    (text_in (codes "newName") params)) (position_in (codes "position") params)) (uri_of params)
