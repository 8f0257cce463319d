-- Messages that are written, as JSON.
use Rattle.std.specs.Prelude.{ℕ, ℤ, List, codes, Option, None, Some, negsuc}
use Rattle.serde_json.specs.Data.{Data, null, number, string, object, member, no_members}
use Rattle.serde_json.specs.Find.{of_integer}
use Rattle.lsp_requests.specs.Kinds.{Id, Number, Text}
use Rattle.lsp_requests.specs.declared.code.ErrorCode.{ErrorCode}
use Rattle.lsp_requests.specs.declared.code.ErrorCode.TheVariants.{ParseError, InvalidRequest, MethodNotFound, InvalidParams, InternalError}
use Rattle.lsp_requests.specs.declared.code.ErrorCode.TheVariants.{NotInitialized, Cancelled, ContentModified, RequestFailed}
use Rattle.lsp_requests.specs.declared.code.Failure.{Failure}
use Rattle.lsp_requests.specs.declared.code.Failure.TheVariants.{NothingNamed, NoName, NameInUse}

-- the numbers of JSON-RPC and of the Language Server Protocol
abbrev pub code_of : ErrorCode → ℤ
code_of ParseError = negsuc 32699
code_of InvalidRequest = negsuc 32599
code_of MethodNotFound = negsuc 32600
code_of InvalidParams = negsuc 32601
code_of InternalError = negsuc 32602
code_of NotInitialized = negsuc 32001
code_of Cancelled = negsuc 32799
code_of ContentModified = negsuc 32800
code_of (RequestFailed failure) = negsuc 32802

-- what is said where a text does not allow it
abbrev pub failure_message : Failure → List ℕ
failure_message NothingNamed = codes "Nothing that can get another name stands there"
failure_message NoName = codes "This is no name of the language"
failure_message NameInUse = codes "This name is in use there"

-- what they say
abbrev pub message_of : ErrorCode → List ℕ
message_of ParseError = codes "Parse error"
message_of InvalidRequest = codes "Invalid Request"
message_of MethodNotFound = codes "Method not found"
message_of InvalidParams = codes "Invalid params"
message_of InternalError = codes "Internal error"
message_of NotInitialized = codes "Server not initialized"
message_of Cancelled = codes "Request cancelled"
message_of ContentModified = codes "Content modified"
message_of (RequestFailed failure) = failure_message failure

abbrev pub id_json : Id → Data
id_json (Number n) = number (of_integer n)
id_json (Text text) = string text

-- an answer that cannot name its request has the id null
abbrev pub any_id_json : Option Id → Data
any_id_json None = null
any_id_json (Some id) = id_json id

abbrev pub version : Data
version = string (codes "2.0")

abbrev pub result_json : Id → Data → Data
result_json id d = object (member (codes "id") (id_json id) (member (codes "jsonrpc") version (member (codes "result") d no_members)))

abbrev pub fault_json : ErrorCode → Data
fault_json code =
    object (member (codes "code") (number (of_integer (code_of code))) (member (codes "message") (string (message_of code)) no_members))

abbrev pub error_json : Option Id → ErrorCode → Data
error_json id code =
    object (member (codes "error") (fault_json code)
    (member (codes "id") (any_id_json id) (member (codes "jsonrpc") version no_members)))

abbrev pub notification_json : List ℕ → Data → Data
notification_json method params =
    object (member (codes "jsonrpc") version (member (codes "method") (string method) (member (codes "params") params no_members)))
