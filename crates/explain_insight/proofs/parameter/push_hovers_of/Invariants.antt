use Rattle.std.proofs.Common.{All}
use Rattle.explain_insight.specs.Read.{IsHoverIn}
use Rattle.explain_insight.proofs.parameter.push_hovers_of.Given as goal

abbrev pub invariant-loop-index : goal.invariant-loop-index
invariant-loop-index l = All (IsHoverIn l.analysed) l.hovers.items
