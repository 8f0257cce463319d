use Rattle.std.proofs.Common.{◌↔◌, drop, map}
use Rattle.annot_types.specs.Held.{HintsRise}
use Rattle.annot_types.specs.Read.{hint_of}
use Rattle.cert_check.proofs.shape.hints_rise.Given as goal

abbrev pub invariant-loop-hint : goal.invariant-loop-hint
invariant-loop-hint l = HintsRise (map hint_of (drop l.hint-index l.hints)) ↔ HintsRise (map hint_of l.hints)
