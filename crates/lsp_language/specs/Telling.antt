-- What a language tells.
use Rattle.std.specs.Prelude.{ℕ, List, Option}
use Rattle.lsp_language.specs.declared.insight.Insight.{Insight}
use Rattle.lsp_language.specs.declared.insight.Hover.{Hover}
use Rattle.lsp_language.specs.declared.names.Named.{Named}
use Rattle.lsp_language.specs.declared.names.Symbol.{Symbol}
use Rattle.lsp_language.specs.declared.names.Renaming.{Renaming}

-- what it tells of a text, whose bytes come first; at a byte of a text at which that has no hover; of what is named at a byte of a text; in an
-- outline of a text; and of another name, told last, for what is named at a byte of a text
pub record Telling : Type 1 where
  pub insight : List ℕ → Insight → Type 0
  pub hover : List ℕ → ℕ → Option Hover → Type 0
  pub named : List ℕ → ℕ → Option Named → Type 0
  pub symbols : List ℕ → List Symbol → Type 0
  pub renamed : List ℕ → ℕ → List ℕ → Renaming → Type 0
