use Rattle.explain_algebra.proofs.Counting.{count_as_numbers}
use Rattle.explain_algebra.proofs.laws.count_as_numbers.Goals as goal

pub returns : goal.returns
returns c = count_as_numbers
