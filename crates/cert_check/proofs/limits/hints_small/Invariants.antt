use Rattle.std.proofs.Common.{map, drop}
use Rattle.annot_types.specs.Read.{hint_of}
use Rattle.cert_check.specs.Limits.{HintsSmall}
use Rattle.cert_check.proofs.limits.hints_small.Given as goal

abbrev pub invariant-loop-hint : goal.invariant-loop-hint
invariant-loop-hint l = HintsSmall (map hint_of (drop l.hint-index l.hints)) → HintsSmall (map hint_of l.hints)
