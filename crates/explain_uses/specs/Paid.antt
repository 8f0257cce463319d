-- Later uses that have to be paid for: with these emptied there are bounds.
use Rattle.std.specs.Prelude.{◌≡◌, ℕ, List, [], ◌∷◌, map, Bool, true, false, ◌&&◌}
use Rattle.std.specs.List.{All}
use Rattle.std.specs.Str.{bytes_eq}
use Rattle.raml_syntax.specs.Tree.{Text, Prog}
use Rattle.raml_syntax.specs.Read.{program_of}
use Rattle.explain_check.specs.Checks.{IsProgramOf}
use Rattle.explain_edits.specs.Edits.{with_edits}
use Rattle.explain_trials.specs.Read.{IsTrialOf}
use Rattle.explain_trials.specs.declared.trial.Trial.{Trial}
use Rattle.explain_degrees.specs.declared.finding.Findings.{Findings}
use Rattle.explain_lines.specs.Read.{lines_of}
use Rattle.explain_uses.specs.Emptied.{edit}
use Rattle.explain_mending.specs.Mended.{AreAmong, IsMended}
use Rattle.explain_uses.specs.Reached.{IsReachedUse}
use Rattle.explain_uses.specs.Read.{uses_of}
use Rattle.explain_uses.specs.declared.later.LaterUse.{LaterUse}
use Rattle.explain_uses.specs.declared.paid.PaidTwice.{PaidTwice}

-- both programs have functions of the same names, in the same order
abbrev pub same_names : Prog → Prog → Bool
same_names [] [] = true
same_names (g ∷ gs) (h ∷ hs) = bytes_eq g.name h.name && same_names gs hs
same_names _ _ = false

-- The text is the source in which these uses are emptied, and it spells a program of functions of the same names.
pub record IsEmptied (source : Text) (P : Prog) (uses : List LaterUse) (text : Text) (Q : Prog) : Type 0 where
  pub edited : text ≡ with_edits source (map edit (uses_of uses))
  pub spelled : IsProgramOf text Q
  pub named : same_names P Q ≡ true

-- it was analysed up to this degree
pub record IsTried (source : Text) (P : Prog) (most : ℕ) (uses : List LaterUse) (trial : Trial) : Type 0 where
  pub emptied : IsEmptied source P uses trial.text.items (program_of trial.typed)
  pub analysed : IsTrialOf most trial

-- Of the source of a program, of which analyses found this before: of these uses those were emptied first that are in the group or in
-- what it reaches by calls, and so each function of the group has bounds.
pub record IsPaidTwice (source : Text) (P : Prog) (old : List Findings) (most : ℕ) (uses : List LaterUse)
    (group : List ℕ) (paid : PaidTwice) : Type 0 where
  pub all : List LaterUse
  pub among : AreAmong uses all
  pub reached : All (IsReachedUse P group) all
  pub mended : IsMended (IsTried source P most) old group all paid.uses.items paid.trial (lines_of paid.lines.items)
