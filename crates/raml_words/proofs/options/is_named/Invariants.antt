use Rattle.std.proofs.Common.{◌≡◌, drop}
use Rattle.raml_words.specs.Sorting.{pairs, is_named}
use Rattle.raml_words.proofs.options.is_named.Given as goal

abbrev pub invariant-loop-other : goal.invariant-loop-other
invariant-loop-other l = is_named l.name (pairs l.values) ≡ is_named l.name (pairs (drop l.other-index l.values))
