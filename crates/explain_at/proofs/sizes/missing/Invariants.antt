use Rattle.std.proofs.Common.{◌≡◌, ◌++◌, drop}
use Rattle.explain_at.specs.Asked.{missing}
use Rattle.explain_at.specs.Read.{all_given, texts}
use Rattle.explain_at.proofs.sizes.missing.Given as goal

abbrev pub invariant-loop-name : goal.invariant-loop-name
invariant-loop-name l =
    texts l.found.items ++ missing (all_given l.given) (texts (drop l.name-index l.names)) ≡ missing (all_given l.given) (texts l.names)
