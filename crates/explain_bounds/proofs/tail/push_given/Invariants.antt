use Rattle.std.proofs.Common.{◌≡◌, ◌++◌, drop, map, codes, string_bytes}
use Rattle.explain_algebra.specs.Steps.{marked}
use Rattle.explain_at.specs.Read.{all_given}
use Rattle.explain_bounds.specs.Told.{size_text, given_text}
use Rattle.explain_bounds.proofs.tail.push_given.Given as goal

abbrev pub invariant-loop-one : goal.invariant-loop-one
invariant-loop-one l =
    string_bytes l.text ++ marked l.is_first (codes ", ") (map (λ g. size_text g.0 g.1) (all_given (drop l.one-index l.given)))
    ≡ string_bytes l.fn.text ++ given_text (all_given l.given)
