-- What a server knows between two messages.
use Rattle.std.specs.Prelude.{ℕ, Bool, List, Option}
use Rattle.lsp_positions.specs.declared.position.Encoding.{Encoding}
use Rattle.lsp_language.specs.declared.insight.Insight.{Insight}
use Rattle.lsp_documents.specs.Document.{Content}
use Rattle.lsp_server.specs.declared.life.Life.{Life}

-- An open document, and what is known of its text as it is now. Its diagnostics are published, or not yet.
pub record Open : Type 0 where
  pub uri : List ℕ
  pub content : Content
  pub known : Option Insight
  pub published : Bool

pub record State : Type 0 where
  pub life : Life
  pub encoding : Encoding
  pub documents : List Open
