-- Messages, worked out by hand.
use Rattle.std.specs.Prelude.{◌≡◌, ℕ, List, codes, pos, negsuc, Some}
use Rattle.serde_json.specs.Data.{Data, Members, null, number, unsigned, string, object, member, no_members}
use Rattle.lsp_requests.specs.Kinds.{Request, Notification, Response, Malformed, Number, Text, kind_of}
use Rattle.lsp_requests.specs.Answers.{code_of, message_of, version}
use Rattle.lsp_requests.specs.declared.code.ErrorCode.TheVariants.{InvalidRequest, RequestFailed}
use Rattle.lsp_requests.specs.declared.code.Failure.TheVariants.{NameInUse}

-- a message with an id, and one without
abbrev with_id : Data → Members → Data
with_id id others = object (member (codes "id") id (member (codes "jsonrpc") version others))

abbrev without_id : Members → Data
without_id others = object (member (codes "jsonrpc") version others)

abbrev calls : List ℕ → Members
calls method = member (codes "method") (string method) no_members

pub record Examples : Type 0 where
  pub request : kind_of (with_id (number (unsigned 7)) (calls (codes "initialize"))) ≡ Request (Number (pos 7)) (codes "initialize")
  pub by_text : kind_of (with_id (string (codes "a")) (calls (codes "shutdown"))) ≡ Request (Text (codes "a")) (codes "shutdown")
  pub notification : kind_of (without_id (calls (codes "exit"))) ≡ Notification (codes "exit")
  pub response : kind_of (with_id (number (unsigned 1)) (member (codes "result") null no_members)) ≡ Response (Some (Number (pos 1)))
  pub null_id : kind_of (with_id null (calls (codes "exit"))) ≡ Malformed InvalidRequest
  pub no_text : kind_of (without_id (member (codes "method") null no_members)) ≡ Malformed InvalidRequest
  pub no_version : kind_of (object (calls (codes "exit"))) ≡ Malformed InvalidRequest
  pub no_object : kind_of null ≡ Malformed InvalidRequest
  pub nothing_said : kind_of (without_id no_members) ≡ Malformed InvalidRequest
  pub failed : code_of (RequestFailed NameInUse) ≡ negsuc 32802
  pub in_use : message_of (RequestFailed NameInUse) ≡ codes "This name is in use there"
