-- The life cycle and some messages, worked out by hand.
use Rattle.std.specs.Prelude.{◌≡◌, ℕ, List, [], ◌∷◌, codes, pos, Option, None, Some, Err}
use Rattle.lsp_requests.specs.Kinds.{Notification, Request, Text}
use Rattle.lsp_server.specs.State.{Open}
use Rattle.lsp_server.specs.Life.{method_of, notice_of, life_after}
use Rattle.lsp_server.specs.Documents.{is_of, first_of, fresh, opened, changed, closed}
use Rattle.lsp_server.specs.Requests.{fresh_answer}
use Rattle.lsp_server.specs.Protocol.{flow_of}
use Rattle.lsp_requests.specs.declared.code.ErrorCode.TheVariants.{NotInitialized}
use Rattle.lsp_params.specs.declared.asking.Subject.TheVariants.{Hover}
use Rattle.lsp_positions.specs.declared.position.Encoding.TheVariants.{Utf16}
use Rattle.lsp_server.specs.declared.life.Life.TheVariants.{Fresh, Running, ShutDown}
use Rattle.lsp_server.specs.declared.life.Flow.TheVariants.{GoOn, End}
use Rattle.lsp_server.specs.declared.method.Method.TheVariants.{Initialize, Shutdown, About, Rename, Unknown}
use Rattle.lsp_server.specs.declared.method.Notice.TheVariants as n

abbrev a : Open
a = fresh (codes "a") (pos 1) (codes "x")

abbrev b : Open
b = fresh (codes "b") (pos 1) (codes "y")

abbrev new_a : Open
new_a = fresh (codes "a") (pos 2) (codes "z")

pub record Examples : Type 0 where
  pub starts : life_after Fresh (method_of (codes "initialize")) ≡ Running
  pub starts_once : life_after ShutDown Initialize ≡ ShutDown
  pub stops : life_after Running (method_of (codes "shutdown")) ≡ ShutDown
  pub early : fresh_answer (method_of (codes "textDocument/hover")) None ≡ Err NotInitialized
  pub served : method_of (codes "textDocument/hover") ≡ About Hover
  pub renames : method_of (codes "textDocument/rename") ≡ Rename
  pub unknown : method_of (codes "textDocument/completion") ≡ Unknown
  pub cancelled : notice_of (codes "$/cancelRequest") ≡ n.Other
  pub ends : flow_of ShutDown (Notification (codes "exit")) ≡ End 0
  pub ends_early : flow_of Running (Notification (codes "exit")) ≡ End 1
  pub goes_on : flow_of Running (Request (Text (codes "1")) (codes "exit")) ≡ GoOn
  pub first : first_of (is_of (codes "b")) (a ∷ b ∷ []) ≡ Some (1, b)
  pub opens : opened (a ∷ []) b ≡ a ∷ b ∷ []
  pub opens_again : opened (a ∷ b ∷ []) new_a ≡ new_a ∷ b ∷ []
  pub changes : changed Utf16 (a ∷ b ∷ []) (codes "a") (pos 2) (record { range = None; text = codes "z" } ∷ []) ≡ new_a ∷ b ∷ []
  pub changes_none : changed Utf16 (b ∷ []) (codes "a") (pos 2) [] ≡ b ∷ []
  pub closes : closed (a ∷ b ∷ []) (codes "a") ≡ b ∷ []
