use Rattle.std.proofs.Common.{◌≡◌, ◌++◌, drop}
use Rattle.explain_rounds.specs.Twice.{crossed}
use Rattle.explain_rounds.specs.Found.{pairs_of}
use Rattle.explain_rounds.proofs.handed.add_crossed.Given as goal

abbrev pub invariant-loop-one : goal.invariant-loop-one
invariant-loop-one l = pairs_of l.pairs.items ++ crossed (drop l.one-index l.earlier) l.later ≡ pairs_of l.fn.pairs.items ++ crossed l.earlier l.later
