-- Notifications: documents that are opened, changed and closed.
use Rattle.std.specs.Prelude.{ℕ, ℤ, List, [], ◌∷◌, codes, Option, None, Some, option_and_then}
use Rattle.serde_json.specs.Data.{Data}
use Rattle.lsp_positions.specs.declared.position.Encoding.{Encoding}
use Rattle.lsp_language.specs.declared.insight.Insight.{Insight}
use Rattle.lsp_requests.specs.Answers.{notification_json}
use Rattle.lsp_documents.specs.Changes.{Replacement}
use Rattle.lsp_params.specs.Asks.{uri_of}
use Rattle.lsp_params.specs.Opened.{Opening, opening_of, versioned_of, changes_of}
use Rattle.lsp_results.specs.Diagnostics.{diagnostics_json, published_json, emptied_json}
use Rattle.lsp_server.specs.State.{Open, State}
use Rattle.lsp_server.specs.Documents.{is_of, first_of, fresh, opened, changed, closed}
use Rattle.lsp_server.specs.declared.life.Life.{Life}
use Rattle.lsp_server.specs.declared.life.Life.TheVariants.{Fresh, Running, ShutDown}
use Rattle.lsp_server.specs.declared.method.Notice.{Notice}
use Rattle.lsp_server.specs.declared.method.Notice.TheVariants as n

-- Params that do not say what they should are passed over.
abbrev pub opened_by : List Open → Option Opening → List Open
opened_by documents None = documents
opened_by documents (Some o) = opened documents (fresh o.uri o.version o.text)

abbrev pub changed_by : Encoding → List Open → Option (List ℕ × ℤ) → Option (List Replacement) → List Open
changed_by encoding documents (Some versioned) (Some changes) = changed encoding documents versioned.0 versioned.1 changes
changed_by encoding documents versioned changes = documents

abbrev pub closed_by : List Open → Option (List ℕ) → List Open
closed_by documents None = documents
closed_by documents (Some uri) = closed documents uri

-- the documents once a notification is heard
abbrev pub documents_after : Encoding → List Open → Notice → Option Data → List Open
documents_after encoding documents n.Open params = opened_by documents (option_and_then opening_of params)
documents_after encoding documents n.Change params =
    changed_by encoding documents (option_and_then versioned_of params) (option_and_then changes_of params)
documents_after encoding documents n.Close params = closed_by documents (option_and_then uri_of params)
documents_after encoding documents notice params = documents

-- It is heard while the server runs.
abbrev pub heard_in : Life → Encoding → List Open → Notice → Option Data → List Open
heard_in Running encoding documents notice params = documents_after encoding documents notice params
heard_in life encoding documents notice params = documents

abbrev pub heard : State → Notice → Option Data → State
heard state notice params =
    record { life = state.life; encoding = state.encoding; documents = heard_in state.life state.encoding state.documents notice params }

abbrev pub publish : Data → Data
publish params = notification_json (codes "textDocument/publishDiagnostics") params

-- what is published of a document by what is known of it
abbrev pub published_of : Encoding → Open → Insight → Data
published_of encoding document insight =
    published_json document.uri document.content.version
    (diagnostics_json encoding document.content.text document.uri insight.diagnostics.items)

abbrev pub publication : Encoding → Open → Insight → Data
publication encoding document insight = publish (published_of encoding document insight)

-- of a document that is closed, nothing is left
abbrev pub emptied : List ℕ → Option (ℕ × Open) → List Data
emptied uri None = []
emptied uri (Some found) = publish (emptied_json uri) ∷ []

abbrev pub emptied_by : List Open → Option (List ℕ) → List Data
emptied_by documents None = []
emptied_by documents (Some uri) = emptied uri (first_of (is_of uri) documents)

-- what is sent once a notification is heard
abbrev pub sent_by : List Open → Notice → Option Data → List Data
sent_by documents n.Close params = emptied_by documents (option_and_then uri_of params)
sent_by documents notice params = []

abbrev pub sent_in : Life → List Open → Notice → Option Data → List Data
sent_in Running documents notice params = sent_by documents notice params
sent_in life documents notice params = []
