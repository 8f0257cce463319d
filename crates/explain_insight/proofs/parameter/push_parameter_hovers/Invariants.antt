use Rattle.std.proofs.Common.{All}
use Rattle.explain_insight.specs.Read.{IsHoverIn}
use Rattle.explain_insight.proofs.parameter.push_parameter_hovers.Given as goal

abbrev pub invariant-loop-place : goal.invariant-loop-place
invariant-loop-place l = All (IsHoverIn l.analysed) l.hovers.items
