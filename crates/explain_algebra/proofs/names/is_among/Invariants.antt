use Rattle.std.proofs.Common.{◌≡◌, [], ◌∷◌, drop}
use Rattle.std.specs.List.{list_any}
use Rattle.std.specs.Str.{bytes_eq}
use Rattle.explain_algebra.specs.Algebra.{texts}
use Rattle.explain_algebra.proofs.names.is_among.Given as goal

abbrev pub invariant-loop-param : goal.invariant-loop-param
invariant-loop-param l = list_any (bytes_eq (l.letter ∷ [])) (texts (drop l.param-index l.params)) ≡ list_any (bytes_eq (l.letter ∷ [])) (texts l.params)
