-- The profile of a function.
use Rattle.std.specs.Prelude.{◌≡◌, ℕ, Bool, true, false, Option, is_some, List, []}
use Rattle.std.specs.List.{All}
use Rattle.raml_syntax.specs.Tree.{Text, Function, Prog}
use Rattle.explain_profile.specs.Runs.{Case}
use Rattle.explain_profile.specs.Reached.{AreReachedLines}
use Rattle.explain_profile.specs.Rows.{all_lines, runs_of, HasAnalysed, IsCounted, AreArranged, IsTable}
use Rattle.explain_profile.specs.declared.rows.Row.{Row}
use Rattle.explain_profile.specs.declared.runs.Runs.TheVariants as r

-- The lines of all functions that a function reaches, each with how often it is run at most.
pub record AreRowsOf (case : Case) (P : Prog) (f : ℕ) (rows : List Row) : Type 0 where
  pub lines : AreReachedLines case.source P f (all_lines rows)
  pub counted : All (IsCounted case) rows

-- A table of them, some of which are analysed; at sizes, which words give, with the dearest first.
pub record IsProfile (case : Case) (words : Option Text) (P : Prog) (f : ℕ) (g : Function) (text : Text) : Type 0 where
  pub found : List Row
  pub are : AreRowsOf case P f found
  pub analysed : HasAnalysed found
  pub rows : List Row
  pub arranged : AreArranged (is_some case.sizes) found rows
  pub table : IsTable case words g rows text

-- none of the lines can be counted
abbrev pub CannotBeCounted : Case → Prog → ℕ → Type 0
CannotBeCounted case P f = (rows : List Row) × AreRowsOf case P f rows × All (λ row. runs_of row ≡ r.NotAnalysed) rows

-- it is told, or nothing is, where no line can be counted
abbrev pub IsProfileIf : Bool → Case → Option Text → Prog → ℕ → Function → Text → Type 0
IsProfileIf true case words P f g text = IsProfile case words P f g text
IsProfileIf false case words P f g text = (text ≡ []) × CannotBeCounted case P f
