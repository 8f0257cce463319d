-- What is known of open documents was told.
use Rattle.std.specs.Prelude.{ℕ, List, [], ◌∷◌, Option, None, Some}
use Rattle.lsp_language.specs.Telling.{Telling}
use Rattle.lsp_language.specs.declared.insight.Insight.{Insight}
use Rattle.lsp_server.specs.State.{Open}

abbrev pub IsTold : Telling → List ℕ → Option Insight → Type 0
IsTold tells text None = Unit {0}
IsTold tells text (Some insight) = tells.insight text insight

-- what is known of each document its language told of the text as it is now
abbrev pub AllTold : Telling → List Open → Type 0
AllTold tells [] = Unit {0}
AllTold tells (document ∷ documents) = IsTold tells document.content.text document.known × AllTold tells documents
