use Rattle.std.proofs.Common.{◌≡◌, drop}
use Rattle.raml_words.specs.Sorting.{pairs, value_of}
use Rattle.raml_words.proofs.options.value_of.Given as goal

abbrev pub invariant-loop-other : goal.invariant-loop-other
invariant-loop-other l = value_of l.name (pairs l.values) ≡ value_of l.name (pairs (drop l.other-index l.values))
