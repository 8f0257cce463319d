use Rattle.std.proofs.Common.{◌≡◌, ◌++◌, filter, not, drop}
use Rattle.std.specs.List.{list_any}
use Rattle.std.specs.Str.{bytes_eq}
use Rattle.explain_nested.specs.Text.{texts}
use Rattle.explain_nested.proofs.names.append_free.Given as goal

abbrev pub invariant-loop-letter : goal.invariant-loop-letter
invariant-loop-letter l =
    texts l.names.items ++ filter (λ x. not (list_any (bytes_eq x) (texts l.params))) (texts (drop l.letter-index l.letters))
    ≡ texts l.fn.names.items ++ filter (λ x. not (list_any (bytes_eq x) (texts l.params))) (texts l.letters)
