-- Answers that are a result, or an error.
use Rattle.std.specs.Prelude.{◌≡◌, false, Result, Ok, Err}
use Rattle.serde_json.specs.Data.{Data}
use Rattle.serde_json.specs.View.{view}
use Rattle.serde_json.specs.Written.{has_float}
use Rattle.serde_json.specs.declared.value.Value.{Value}
use Rattle.lsp_requests.specs.declared.code.ErrorCode.{ErrorCode}

-- a result, or the code of an error
abbrev pub Answer : Type 0
Answer = Result Data ErrorCode

-- an answer as it is computed
abbrev pub answer_view : Result Value ErrorCode → Answer
answer_view (Ok value) = Ok (view value)
answer_view (Err code) = Err code

-- it has no number with a fraction, whose text nothing tells
abbrev pub IsPlain : Answer → Type 0
IsPlain (Ok d) = has_float d ≡ false
IsPlain (Err code) = Unit {0}
