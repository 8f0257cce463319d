-- What a line declares.
use Rattle.std.specs.Prelude.{◌≤◌, ℕ, List}
use Rattle.raml_syntax.specs.Tree.{Type'}
use Rattle.bound_file.specs.Lines.{Line, IsProper}
use Rattle.explain_verdicts.specs.Fractions.{fractions_of, ArePlaced}
use Rattle.explain_verdicts.specs.Written.{AreFractions}

-- A line that lists positions in order, with numbers in range, declares fractions at tuples, each once.
abbrev pub LinesHaveFractions : Type 0
LinesHaveFractions = (As : List Type') (d : ℕ) (line : Line) → d ≤ 4 → IsProper line → ArePlaced As d line.bound →
    AreFractions As (fractions_of As d line.bound)
