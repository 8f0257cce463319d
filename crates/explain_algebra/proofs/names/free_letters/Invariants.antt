use Rattle.std.proofs.Common.{◌≡◌, ◌++◌, [], ◌∷◌, filter, not, drop}
use Rattle.std.specs.List.{list_any}
use Rattle.std.specs.Str.{bytes_eq}
use Rattle.explain_algebra.specs.Algebra.{texts}
use Rattle.explain_algebra.proofs.names.free_letters.Given as goal

abbrev pub invariant-loop-letter : goal.invariant-loop-letter
invariant-loop-letter l =
    l.free.items ++ filter (λ x. not (list_any (bytes_eq (x ∷ [])) (texts l.params))) (drop l.letter-index l.letters)
    ≡ filter (λ x. not (list_any (bytes_eq (x ∷ [])) (texts l.params))) l.letters
