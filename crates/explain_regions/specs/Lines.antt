-- The lines of a source on which forms of a body begin.
use Rattle.std.specs.Prelude.{ℕ, ◌+◌, ◌-◌, List, [], ◌∷◌, Bool, cond, take, drop}
use Rattle.std.specs.List.{list_any}
use Rattle.raml_syntax.specs.Tree as t
use Rattle.raml_syntax.specs.Tree.{Text}
use Rattle.explain_places.specs.Places.{is_newline}
use Rattle.explain_regions.specs.Regions.{Site, body_sites}

-- A line, by the first form that begins on it: the byte where it does, and the one where its region begins; and what the forms that begin
-- on the line cost together where each of them is run once.
pub record Line : Type 0 where
  pub at : ℕ
  pub region : ℕ
  pub ticks : ℕ
  pub cells : ℕ
  pub work : ℕ

-- the line of a form, where no other one begins on it
abbrev pub alone : Site → Line
alone s = record { at = s.at; region = s.region; ticks = s.ticks; cells = s.cells; work = 1 }

-- two parts of a line
abbrev pub joined : Line → Line → Line
joined l m = record { at = l.at; region = l.region; ticks = l.ticks + m.ticks; cells = l.cells + m.cells; work = l.work + m.work }

-- a line ends between these bytes
abbrev pub ends_between : Text → ℕ → ℕ → Bool
ends_between source from to = list_any is_newline (take (to - from) (drop from source))

-- lines behind forms of a line, the last of which begins at this byte: the first goes on with it, unless it ends between
abbrev pub before : Text → Line → ℕ → List Line → List Line
before source l last [] = l ∷ []
before source l last (m ∷ ms) = cond (ends_between source last m.at) (l ∷ m ∷ ms) (joined l m ∷ ms)

-- the lines on which these forms begin
abbrev pub lines_in : Text → List Site → List Line
lines_in source [] = []
lines_in source (s ∷ ss) = before source (alone s) s.at (lines_in source ss)

-- the lines of a body
abbrev pub lines : Text → t.Term → List Line
lines source body = lines_in source (body_sites body)
