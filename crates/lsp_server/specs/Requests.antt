-- Requests and their answers.
use Rattle.std.specs.Prelude.{ℕ, ◌≡◌, List, Option, None, Some, option_and_then, Ok, Err, slice_set}
use Rattle.serde_json.specs.Data.{Data, null}
use Rattle.lsp_positions.specs.declared.position.Encoding.{Encoding}
use Rattle.lsp_language.specs.Telling.{Telling}
use Rattle.lsp_language.specs.declared.insight.Insight.{Insight}
use Rattle.lsp_requests.specs.Kinds.{Id}
use Rattle.lsp_requests.specs.Answers.{result_json, error_json}
use Rattle.lsp_requests.specs.declared.code.ErrorCode.TheVariants.{InvalidRequest, MethodNotFound, InvalidParams, NotInitialized}
use Rattle.lsp_params.specs.Agreed.{agreed}
use Rattle.lsp_params.specs.Asks.{asked_of, NewName, new_name_of}
use Rattle.lsp_params.specs.declared.asking.Ask.{Ask}
use Rattle.lsp_results.specs.Capabilities.{initialized_json}
use Rattle.lsp_results.specs.Results.{IsResult}
use Rattle.lsp_results.specs.Renames.{IsRenamed}
pub use Rattle.lsp_results.specs.Answers.{Answer, answer_view, IsPlain}
use Rattle.lsp_server.specs.State.{Open, State}
use Rattle.lsp_server.specs.Documents.{is_of, first_of, IsLearnt, learnt}
use Rattle.lsp_server.specs.Life.{life_after, encoding_after}
use Rattle.lsp_server.specs.declared.life.Life.{Life}
use Rattle.lsp_server.specs.declared.life.Life.TheVariants.{Fresh, Running, ShutDown}
use Rattle.lsp_server.specs.declared.method.Method.{Method}
use Rattle.lsp_server.specs.declared.method.Method.TheVariants.{Initialize, Shutdown, About, Rename, Unknown}

-- the one response to a request
abbrev pub response : Id → Answer → Data
response id (Ok d) = result_json id d
response id (Err code) = error_json (Some id) code

-- The documents stay as they are, and this is the answer.
pub record Stays (before after : List Open) (is answer : Answer) : Type 0 where
  pub same : after ≡ before
  pub told : answer ≡ is

-- An answer on a document by what is known of it, and by what its language tells besides. It is known from then on.
pub record IsOfInsight (tells : Telling) (encoding : Encoding) (before after : List Open)
    (found : ℕ × Open) (ask : Ask) (answer : Answer) : Type 0 where
  pub insight : Insight
  pub is : IsLearnt tells found.1 found.1.known insight
  pub kept : after ≡ slice_set before found.0 (learnt found.1 insight)
  pub result : Data
  pub by : IsResult tells encoding found.1.content.text found.1.uri insight ask result
  pub told : answer ≡ Ok result

-- what is asked of a document that is open, or not
abbrev pub OfDocument : Telling → Encoding → List Open → List Open → Option (ℕ × Open) → Ask → Answer → Type 0
OfDocument tells encoding before after None ask answer = Stays before after (Err InvalidParams) answer
OfDocument tells encoding before after (Some found) ask answer = IsOfInsight tells encoding before after found ask answer

abbrev pub OfText : Telling → Encoding → List Open → List Open → Option (List ℕ × Ask) → Answer → Type 0
OfText tells encoding before after None answer = Stays before after (Err InvalidParams) answer
OfText tells encoding before after (Some asked) answer =
    OfDocument tells encoding before after (first_of (is_of asked.0) before) asked.1 answer

-- another name that is wanted in a document that is open, or not
abbrev pub RenamedIn : Telling → Encoding → Option (ℕ × Open) → NewName → Answer → Type 0
RenamedIn tells encoding None wanted answer = answer ≡ Err InvalidParams
RenamedIn tells encoding (Some found) wanted answer =
    IsRenamed tells encoding found.1.content.text found.1.uri wanted.position wanted.name answer

abbrev pub OfNewName : Telling → Encoding → List Open → Option NewName → Answer → Type 0
OfNewName tells encoding documents None answer = answer ≡ Err InvalidParams
OfNewName tells encoding documents (Some wanted) answer = RenamedIn tells encoding (first_of (is_of wanted.uri) documents) wanted answer

-- while the server runs
abbrev pub OfRunning : Telling → Encoding → List Open → List Open → Method → Option Data → Answer → Type 0
OfRunning tells encoding before after Initialize params answer = Stays before after (Err InvalidRequest) answer
OfRunning tells encoding before after Shutdown params answer = Stays before after (Ok null) answer
OfRunning tells encoding before after (About subject) params answer =
    OfText tells encoding before after (option_and_then (asked_of subject) params) answer
OfRunning tells encoding before after Rename params answer =
    (after ≡ before) × OfNewName tells encoding before (option_and_then new_name_of params) answer
OfRunning tells encoding before after Unknown params answer = Stays before after (Err MethodNotFound) answer

-- before it runs
abbrev pub fresh_answer : Method → Option Data → Answer
fresh_answer Initialize params = Ok (initialized_json (agreed params))
fresh_answer method params = Err NotInitialized

-- The answer to a request, and the documents then.
abbrev pub Answers : Telling → Life → Encoding → List Open → List Open → Method → Option Data → Answer → Type 0
Answers tells Fresh encoding before after method params answer = Stays before after (fresh_answer method params) answer
Answers tells Running encoding before after method params answer = OfRunning tells encoding before after method params answer
Answers tells ShutDown encoding before after method params answer = Stays before after (Err InvalidRequest) answer

-- A request is answered, and the state is this then.
pub record IsAnswered (tells : Telling) (before after : State) (method : Method)
    (params : Option Data) (answer : Answer) : Type 0 where
  pub answers : Answers tells before.life before.encoding before.documents after.documents method params answer
  pub life : after.life ≡ life_after before.life method
  pub encoding : after.encoding ≡ encoding_after before.life before.encoding method params
