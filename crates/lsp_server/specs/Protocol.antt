-- What a server does with each message.
use Rattle.std.specs.Prelude.{ℕ, ◌≡◌, ◌⊎◌, Bool, List, [], ◌∷◌, ◌++◌, codes, Option, None, Some, is_some, slice_set}
use Rattle.serde_json.specs.Data.{Data}
use Rattle.serde_json.specs.Find.{get}
use Rattle.lsp_positions.specs.declared.position.Encoding.{Encoding}
use Rattle.lsp_language.specs.Telling.{Telling}
use Rattle.lsp_language.specs.declared.insight.Insight.{Insight}
use Rattle.lsp_requests.specs.Kinds.{Id, Kind, Request, Notification, Response, Malformed, kind_of}
use Rattle.lsp_requests.specs.Read.{IsJson}
use Rattle.lsp_requests.specs.Answers.{error_json}
use Rattle.lsp_requests.specs.declared.code.ErrorCode.TheVariants.{ParseError}
use Rattle.lsp_server.specs.State.{Open, State}
use Rattle.lsp_server.specs.Sent.{frames}
use Rattle.lsp_server.specs.Documents.{is_unpublished, first_of, IsLearnt, learnt, published, MayLearn}
use Rattle.lsp_server.specs.Life.{method_of, notice_of, status_of}
use Rattle.lsp_server.specs.Requests.{Answer, response, IsAnswered}
use Rattle.lsp_server.specs.Notices.{heard, sent_in, publication}
use Rattle.lsp_server.specs.declared.life.Life.{Life}
use Rattle.lsp_server.specs.declared.life.Flow.{Flow}
use Rattle.lsp_server.specs.declared.life.Flow.TheVariants.{GoOn, End}
use Rattle.lsp_server.specs.declared.method.Notice.{Notice}
use Rattle.lsp_server.specs.declared.method.Notice.TheVariants.{Exit}

-- A content is a message of this kind with these params: what is no JSON is malformed.
abbrev pub Says : List ℕ → Kind → Option Data → Type 0
Says content kind params =
    ((d : Data) × IsJson content d × (kind ≡ kind_of d) × (params ≡ get (codes "params") d))
    ⊎ (((d : Data) → ¬ (IsJson content d)) × (kind ≡ Malformed ParseError) × (params ≡ None))

-- Each request has one response, which has its id.
pub record IsRequested (tells : Telling) (before after : State) (id : Id)
    (name : List ℕ) (params : Option Data) (sent : List Data) : Type 0 where
  pub answer : Answer
  pub answered : IsAnswered tells before after (method_of name) params answer
  pub one : sent ≡ response id answer ∷ []

-- the state after a message, and what is sent
abbrev pub Takes : Telling → State → State → Kind → Option Data → List Data → Type 0
Takes tells before after (Request id name) params sent = IsRequested tells before after id name params sent
Takes tells before after (Notification name) params sent =
    (after ≡ heard before (notice_of name) params) × (sent ≡ sent_in before.life before.documents (notice_of name) params)
Takes tells before after (Response id) params sent = (after ≡ before) × (sent ≡ [])
Takes tells before after (Malformed code) params sent = (after ≡ before) × (sent ≡ error_json None code ∷ [])

-- `exit` ends the server, at any time.
abbrev pub flow_by : Life → Notice → Flow
flow_by life Exit = End (status_of life)
flow_by life notice = GoOn

abbrev pub flow_of : Life → Kind → Flow
flow_of life (Notification name) = flow_by life (notice_of name)
flow_of life kind = GoOn

-- What a message does: the state then, what is sent behind what was sent before, and whether the server goes on.
pub record IsActed (tells : Telling) (before after : State) (kind : Kind)
    (params : Option Data) (old new : List ℕ) (flow : Flow) : Type 0 where
  pub sent : List Data
  pub takes : Takes tells before after kind params sent
  pub sends : new ≡ old ++ frames sent
  pub flows : flow ≡ flow_of before.life kind

-- A content is taken as the message that it is.
pub record IsTaken (tells : Telling) (content : List ℕ) (before after : State)
    (old new : List ℕ) (flow : Flow) : Type 0 where
  pub kind : Kind
  pub params : Option Data
  pub says : Says content kind params
  pub acts : IsActed tells before after kind params old new flow

-- The diagnostics of a document are published, by what is known of it.
pub record IsPublished (tells : Telling) (encoding : Encoding)
    (before after : List Open) (found : ℕ × Open) (sent : List Data) : Type 0 where
  pub insight : Insight
  pub is : IsLearnt tells found.1 found.1.known insight
  pub kept : after ≡ slice_set before found.0 (published (learnt found.1 insight))
  pub sends : sent ≡ publication encoding found.1 insight ∷ []

-- of the first document whose diagnostics are not published, if there is one
abbrev pub Publishes : Telling → Encoding → List Open → List Open → Option (ℕ × Open) → List Data → Type 0
Publishes tells encoding before after None sent = (after ≡ before) × (sent ≡ [])
Publishes tells encoding before after (Some found) sent = IsPublished tells encoding before after found sent

pub record IsSettled (tells : Telling) (before after : State) (old new : List ℕ) (found : Bool) : Type 0 where
  pub sent : List Data
  pub publishes : Publishes tells before.encoding before.documents after.documents (first_of is_unpublished before.documents) sent
  pub sends : new ≡ old ++ frames sent
  pub any : found ≡ is_some (first_of is_unpublished before.documents)
  pub life : after.life ≡ before.life
  pub encoding : after.encoding ≡ before.encoding

-- Without memory nothing changes, but that a document may be known.
pub record IsAsBefore (tells : Telling) (before after : State) : Type 0 where
  pub life : after.life ≡ before.life
  pub encoding : after.encoding ≡ before.encoding
  pub documents : MayLearn tells before.documents after.documents
