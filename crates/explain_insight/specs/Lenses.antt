-- Bounds above functions, and beside their headers.
use Rattle.std.specs.Prelude.{◌≡◌, ℕ, ◌+◌, List, [], ◌∷◌, length, drop, string_bytes}
use Rattle.raml_syntax.specs.Tree.{Text, Function}
use Rattle.lsp_language.specs.declared.insight.Hint.{Hint}
use Rattle.lsp_language.specs.declared.insight.Lens.{Lens}
use Rattle.explain_places.specs.Places.{line_text}
use Rattle.explain_degrees.specs.declared.finding.Findings.{Findings}
use Rattle.explain_insight.specs.Brief.{IsBrief}

-- the lens of a function, at its `fun`
pub record IsLens (g : Function) (found : Findings) (lens : Lens) : Type 0 where
  pub start : lens.span.start ≡ g.at
  pub end : lens.span.end ≡ g.at + 3
  pub title : IsBrief g found (string_bytes lens.title)

-- where the line ends in which a byte stands
abbrev pub line_end : Text → ℕ → ℕ
line_end source at = at + length (line_text (drop at source) 0)

-- the same at the end of the line in which the function begins
pub record IsHint (source : Text) (g : Function) (found : Findings) (hint : Hint) : Type 0 where
  pub place : hint.offset ≡ line_end source g.at
  pub label : IsBrief g found (string_bytes hint.label)

-- one for each function, in the order of the source
abbrev pub AreEach : {A : Type 0} → (Function → Findings → A → Type 0) → List Function → List Findings → List A → Type 0
AreEach Is (g ∷ gs) (found ∷ more) (x ∷ xs) = Is g found x × AreEach Is gs more xs
AreEach Is (g ∷ gs) (found ∷ more) [] = ⊥
AreEach Is gs more xs = xs ≡ []
