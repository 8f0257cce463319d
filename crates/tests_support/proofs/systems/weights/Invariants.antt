use Rattle.std.proofs.Common.{◌≡◌, vec_len}
use Rattle.raml_num.specs.Sums.{NoneNegative}
use Rattle.tests_support.proofs.systems.weights.Given as goal

abbrev pub invariant-loop-unknown : goal.invariant-loop-unknown
invariant-loop-unknown l = (vec_len l.all ≡ l.unknown) × NoneNegative l.all.items
