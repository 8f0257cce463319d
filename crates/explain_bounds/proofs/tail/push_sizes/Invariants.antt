use Rattle.std.proofs.Common.{◌≡◌, ◌++◌, drop, map, codes, string_bytes}
use Rattle.std.specs.Prelude.{unwrap_or}
use Rattle.explain_algebra.specs.Steps.{marked}
use Rattle.explain_at.specs.Read.{all_given, texts}
use Rattle.explain_at.specs.Words.{given_for}
use Rattle.explain_bounds.specs.Told.{size_text, sizes_text}
use Rattle.explain_bounds.proofs.tail.push_sizes.Given as goal

abbrev pub invariant-loop-name : goal.invariant-loop-name
invariant-loop-name l =
    string_bytes l.text
    ++ marked l.is_first (codes ", ") (map (λ x. size_text x (unwrap_or (given_for x (all_given l.given)) l.number)) (texts (drop l.name-index l.name-items)))
    ≡ string_bytes l.fn.text ++ sizes_text (all_given l.given) (texts l.name-items) l.number
