-- A group that all changes mend is mended by those that are kept.
use Rattle.std.proofs.Common.{◌≡◌, ℕ, List, length, true, subst}
use Rattle.explain_trials.specs.declared.trial.Trial.{Trial}
use Rattle.explain_degrees.specs.declared.finding.Findings.{Findings}
use Rattle.explain_lines.specs.Mended.{Line, has_bounds, mended_lines, mends_group}
use Rattle.explain_lines.specs.Laws.{GroupsStayMended}
use Rattle.explain_mending.specs.Mended.{AreReduced, IsMended, findings_in}

pub is_mended : {C : Type 0} (Tried : List C → Trial → Type 0) (old : List Findings) (group : List ℕ) (all changes : List C) (first trial : Trial) (lines : List Line) →
    GroupsStayMended → length (findings_in first) ≡ length old → Tried all first → mends_group old (findings_in first) group ≡ true →
    AreReduced Tried (mended_lines old (findings_in first)) all changes trial lines → IsMended Tried old group all changes trial lines
is_mended Tried old group all changes first trial lines stay count tried mends reduced =
    let bounds = subst (λ wanted. has_bounds (findings_in trial) wanted ≡ true) reduced.are reduced.keeps.bounds in
    record { first = first; tried = tried; reduced = reduced; mends = stay old (findings_in first) (findings_in trial) group count mends bounds }
