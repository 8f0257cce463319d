-- Why functions of a program have no bounds.
use Rattle.std.specs.Prelude.{◌≡◌, ℕ, List, Bool, map, is_some}
use Rattle.std.specs.List.{All, filter}
use Rattle.raml_syntax.specs.Tree.{Text, Prog}
use Rattle.call_groups.specs.Groups.{Grouping, IsGrouping}
use Rattle.explain_degrees.specs.declared.finding.Findings.{Findings}
use Rattle.explain_lines.specs.Lines.{first_lacking}
use Rattle.explain_lines.specs.Read.{line_of}
use Rattle.explain_trials.specs.Trials.{FindsUpTo}
use Rattle.explain_reasons.specs.Notes as n
use Rattle.explain_reasons.specs.Reasons.{IsExplained, group_in}
use Rattle.explain_reasons.specs.declared.note.Note.{Note}
use Rattle.explain_reasons.specs.declared.note.Note.TheVariants as d
use Rattle.explain_reasons.specs.declared.reason.Explained.{Explained}
use Rattle.explain_reasons.specs.declared.program.Explanation.{Explanation}

abbrev pub note_in : Note → n.Note
note_in (d.FromDegree line degree) = n.FromDegree (line_of line) degree
note_in (d.AtLowerDegreeAlone line degree) = n.AtLowerDegreeAlone (line_of line) degree

-- a function of the group has no bound
abbrev pub is_lacking : List Findings → List ℕ → Bool
is_lacking found group = is_some (first_lacking found group)

-- The groups of a program that have no bound, each once, callees first, with their reasons.
pub record AreReasons (source : Text) (P : Prog) (found : List Findings) (most : ℕ) (reasons : List Explained) : Type 0 where
  pub groups : Grouping
  pub grouping : IsGrouping P groups
  pub each : map group_in reasons ≡ filter (is_lacking found) groups.list
  pub explained : All (IsExplained source P found most) reasons

-- What analyses up to degree 4 find of a program, what is said of the functions that have bounds, and reasons; trials go up to degree 3.
pub record IsExplanation (source : Text) (P : Prog) (asked : ℕ) (explanation : Explanation) : Type 0 where
  pub finds : FindsUpTo P 4 explanation.found
  pub notes : map note_in explanation.notes.items ≡ n.notes asked explanation.found.refused.items explanation.found.functions.items
  pub reasons : AreReasons source P explanation.found.functions.items 3 explanation.reasons.items
