-- What the language of programs tells, by analyses at degrees up to `most`, each with at most so many pivots.
use Rattle.std.specs.Prelude.{ℕ}
use Rattle.lsp_language.specs.Telling.{Telling}
use Rattle.explain_counts.specs.Hovers.{IsToldAt}
use Rattle.explain_scopes.specs.Read.{IsNamedAt, IsOutline, IsRenamedAt}
use Rattle.explain_language.specs.Told.{IsTold}

-- of a text what is told of a source; at a byte of it how often its line is run, and what is named there; its functions in an outline; and what
-- comes of another name
abbrev pub told_by : ℕ → ℕ → Telling
told_by most pivots = record {
  insight = IsTold most pivots;
  hover = IsToldAt most;
  named = IsNamedAt;
  symbols = IsOutline;
  renamed = IsRenamedAt;
}
