-- What is appended step by step.
use Rattle.std.specs.Prelude.{Bool, not, ◌&&◌, cond, List}
use Rattle.raml_syntax.specs.Tree.{Text}
use Rattle.explain_algebra.specs.Algebra.{joined, led, has_any}

-- the texts that come first, or behind others
abbrev pub marked : Bool → Text → List Text → Text
marked is_first mark ts = cond is_first (joined mark ts) (led mark ts)

-- whether none has come with these either
abbrev pub still : Bool → List Text → Bool
still is_first ts = is_first && not (has_any ts)
