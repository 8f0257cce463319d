-- Messages that are read.
use Rattle.std.specs.Prelude.{◌≡◌, ◌⊎◌, ℕ, List, Some, option_map, string_bytes, IsUtf8}
use Rattle.serde_json.specs.Data.{Data, null}
use Rattle.serde_json.specs.Read.{read}
use Rattle.serde_json.specs.View.{view}
use Rattle.lsp_requests.specs.Kinds as k
use Rattle.lsp_requests.specs.Kinds.{kind_of}
use Rattle.lsp_requests.specs.declared.code.ErrorCode.TheVariants.{ParseError}
use Rattle.lsp_requests.specs.declared.message.Id.{Id}
use Rattle.lsp_requests.specs.declared.message.Id.TheVariants.{Number, Text}
use Rattle.lsp_requests.specs.declared.message.Kind.{Kind}
use Rattle.lsp_requests.specs.declared.message.Kind.TheVariants.{Request, Notification, Response, Malformed}
use Rattle.lsp_requests.specs.declared.message.Message.{Message}

-- ids and kinds without where they lie in memory
abbrev pub id_view : Id → k.Id
id_view (Number n) = k.Number n
id_view (Text text) = k.Text (string_bytes text)

abbrev pub kind_view : Kind → k.Kind
kind_view (Request id method) = k.Request (id_view id) (string_bytes method)
kind_view (Notification method) = k.Notification (string_bytes method)
kind_view (Response id) = k.Response (option_map id_view id)
kind_view (Malformed code) = k.Malformed code

-- the bytes are JSON of this value
pub record IsJson (bytes : List ℕ) (d : Data) : Type 0 where
  pub text : IsUtf8 bytes
  pub reads : read bytes ≡ Some d

-- the message is what the bytes say, and a parse error where they are no JSON
abbrev pub IsMessage : List ℕ → Message → Type 0
IsMessage bytes message =
    (IsJson bytes (view message.value) × (kind_view message.kind ≡ kind_of (view message.value)))
    ⊎ (((d : Data) → ¬ (IsJson bytes d)) × (kind_view message.kind ≡ k.Malformed ParseError) × (view message.value ≡ null))
