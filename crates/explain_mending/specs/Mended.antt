-- Changes by which functions get bounds. What is known where changes were tried is `Tried`.
use Rattle.std.specs.Prelude.{◌≡◌, ℕ, List, true}
use Rattle.std.specs.List.{All, Contains}
use Rattle.explain_trials.specs.declared.trial.Trial.{Trial}
use Rattle.explain_degrees.specs.declared.finding.Findings.{Findings}
use Rattle.explain_lines.specs.Mended.{Line, has_bounds, mended_lines, mends_group}

abbrev pub findings_in : Trial → List Findings
findings_in trial = trial.found.functions.items

-- all that are chosen are among these
abbrev pub AreAmong : {C : Type 0} → List C → List C → Type 0
AreAmong all chosen = All (Contains all) chosen

-- the changes were tried, and there are bounds of all these lines
pub record Keeps {C : Type 0} (Tried : List C → Trial → Type 0) (lines : List Line) (changes : List C) (trial : Trial) : Type 0 where
  pub tried : Tried changes trial
  pub bounds : has_bounds (findings_in trial) lines ≡ true

-- these lines are told, and the changes that are told are some of all, with which there are bounds of all these lines
pub record AreReduced {C : Type 0} (Tried : List C → Trial → Type 0) (wanted : List Line) (all changes : List C) (trial : Trial)
    (lines : List Line) : Type 0 where
  pub are : lines ≡ wanted
  pub among : AreAmong all changes
  pub keeps : Keeps Tried lines changes trial

-- Where analyses found this before: all changes were tried first, and mend lines; some of them mend these lines, too, and each function of
-- the group has bounds with them.
pub record IsMended {C : Type 0} (Tried : List C → Trial → Type 0) (old : List Findings) (group : List ℕ) (all changes : List C)
    (trial : Trial) (lines : List Line) : Type 0 where
  pub first : Trial
  pub tried : Tried all first
  pub reduced : AreReduced Tried (mended_lines old (findings_in first)) all changes trial lines
  pub mends : mends_group old (findings_in trial) group ≡ true
