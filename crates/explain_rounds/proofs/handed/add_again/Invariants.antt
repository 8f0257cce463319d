use Rattle.std.proofs.Common.{◌≡◌, ◌++◌, drop}
use Rattle.explain_rounds.specs.Twice.{again}
use Rattle.explain_rounds.specs.Found.{pairs_of}
use Rattle.explain_rounds.proofs.handed.add_again.Given as goal

abbrev pub invariant-loop-other : goal.invariant-loop-other
invariant-loop-other l = pairs_of l.pairs.items ++ again l.one (drop l.other-index l.later) ≡ pairs_of l.fn.pairs.items ++ again l.one l.later
