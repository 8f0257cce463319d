-- How often a region is run at most, in Markdown.
use Rattle.std.specs.Prelude.{◌≡◌, ℕ, [], ◌∷◌, ◌++◌, codes, string_bytes}
use Rattle.raml_syntax.specs.Tree.{Text}
use Rattle.explain_profile.specs.Runs.{Case, AreRunsAt}
use Rattle.explain_profile.specs.declared.runs.Runs.{Runs}
use Rattle.explain_profile.specs.declared.runs.Runs.TheVariants as r

-- what names mean, where something has to be said
abbrev pub legend_behind : Text → Text
legend_behind [] = []
legend_behind (c ∷ legend) = codes ", `" ++ ((c ∷ legend) ++ codes "`")

-- the sum and its legend, as code
abbrev pub at_most : Text → Text → Text
at_most sum legend = codes "at most `" ++ (sum ++ (codes "`" ++ legend_behind legend))

abbrev pub runs_text : Runs → Text
runs_text (r.AtMost sum legend at) = at_most (string_bytes sum) (string_bytes legend)
runs_text r.NoBound = codes "no bound"
runs_text r.NotAnalysed = codes "not analysed"

-- by a call of the function of this name
abbrev pub count_text : Text → Runs → Text
count_text name runs = codes "runs in a call of `" ++ (name ++ (codes "`: " ++ runs_text runs))

-- How often the region that begins at this byte is run at most by a call of the function of the case.
pub record IsCount (case : Case) (region : ℕ) (text : Text) : Type 0 where
  pub runs : Runs
  pub are : AreRunsAt case region runs
  pub is : text ≡ count_text case.name runs
