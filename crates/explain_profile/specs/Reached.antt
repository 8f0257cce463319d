-- The lines of a function and of those that it reaches by calls.
use Rattle.std.specs.Prelude.{◌≡◌, ◌↔◌, ℕ, suc, List, [], ◌∷◌, ◌++◌, Bool, true, cond}
use Rattle.raml_syntax.specs.Tree.{Text, Function, Prog}
use Rattle.call_groups.specs.Groups.{Reaches}
use Rattle.explain_rounds.specs.Calls.{is_in}
use Rattle.explain_regions.specs.Lines.{Line, lines}

-- the functions that a function reaches by calls, and itself
abbrev pub AreReached : Prog → ℕ → List ℕ → Type 0
AreReached P f funs = (g : ℕ) → (is_in g funs ≡ true) ↔ Reaches P f g

abbrev pub lines_if : Bool → Text → Function → List Line
lines_if is_told source g = cond is_told (lines source g.body) []

-- the lines of those functions, from a place on, that are among these
abbrev pub lines_of : Text → List ℕ → ℕ → Prog → List Line
lines_of source funs k [] = []
lines_of source funs k (g ∷ P) = lines_if (is_in k funs) source g ++ lines_of source funs (suc k) P

-- the lines of all functions that a function reaches, in the order of the source
abbrev pub AreReachedLines : Text → Prog → ℕ → List Line → Type 0
AreReachedLines source P f lines = (funs : List ℕ) × AreReached P f funs × (lines ≡ lines_of source funs 0 P)
