-- What a message of JSON-RPC 2.0 is, by its members.
use Rattle.std.specs.Prelude.{ℕ, ℤ, List, Bool, false, cond, codes, Option, None, Some, option_and_then}
use Rattle.std.specs.Str.{bytes_eq}
use Rattle.serde_json.specs.Data.{Data}
use Rattle.serde_json.specs.Find.{get, as_str, as_number, as_i64}
use Rattle.lsp_requests.specs.declared.code.ErrorCode.{ErrorCode}
use Rattle.lsp_requests.specs.declared.code.ErrorCode.TheVariants.{InvalidRequest}

-- what a request is known by
pub data Id : Type 0 where
  Number : ℤ → Id
  Text : List ℕ → Id

-- a request has an id and a method, a notification a method, and a response an id that may be null
pub data Kind : Type 0 where
  Request : Id → List ℕ → Kind
  Notification : List ℕ → Kind
  Response : Option Id → Kind
  Malformed : ErrorCode → Kind

-- a text, or else a number of 64 bits
abbrev pub id_by : Option (List ℕ) → Option ℤ → Option Id
id_by (Some text) number = Some (Text text)
id_by None (Some n) = Some (Number n)
id_by None None = None

abbrev pub id_of : Data → Option Id
id_of d = id_by (as_str d) (option_and_then as_i64 (as_number d))

-- a method beside an id
abbrev pub request_by : List ℕ → Option Id → Kind
request_by method None = Malformed InvalidRequest
request_by method (Some id) = Request id method

-- a method that is a text, or not
abbrev pub named_by : Option (List ℕ) → Option Data → Kind
named_by None id = Malformed InvalidRequest
named_by (Some method) None = Notification method
named_by (Some method) (Some id) = request_by method (id_of id)

-- by the members `method` and `id`, where they are
abbrev pub kind_by : Option Data → Option Data → Kind
kind_by (Some method) id = named_by (as_str method) id
kind_by None (Some id) = Response (id_of id)
kind_by None None = Malformed InvalidRequest

abbrev pub is_text : List ℕ → Option (List ℕ) → Bool
is_text text None = false
is_text text (Some other) = bytes_eq other text

-- the member `jsonrpc` is "2.0"
abbrev pub is_version : Data → Bool
is_version d = is_text (codes "2.0") (option_and_then as_str (get (codes "jsonrpc") d))

abbrev pub kind_of : Data → Kind
kind_of d = cond (is_version d) (kind_by (get (codes "method") d) (get (codes "id") d)) (Malformed InvalidRequest)
