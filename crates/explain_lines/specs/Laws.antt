-- Laws of lines that a change mends.
use Rattle.std.specs.Prelude.{◌≡◌, ℕ, List, length, true}
use Rattle.explain_degrees.specs.declared.finding.Findings.{Findings}
use Rattle.explain_lines.specs.Mended.{mended_lines, has_bounds, mends_group}

-- the change that mends lines has bounds of all of them
abbrev pub MendedLinesHaveBounds : Type 0
MendedLinesHaveBounds = (old new : List Findings) → has_bounds new (mended_lines old new) ≡ true

-- a group that a change mends stays mended by each other change that has bounds of all lines that the first one mends
abbrev pub GroupsStayMended : Type 0
GroupsStayMended = (old new later : List Findings) (group : List ℕ) → length new ≡ length old → mends_group old new group ≡ true →
    has_bounds later (mended_lines old new) ≡ true → mends_group old later group ≡ true
