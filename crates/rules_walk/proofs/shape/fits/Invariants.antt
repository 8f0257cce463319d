use Rattle.std.proofs.Common.{◌↔◌, map, drop}
use Rattle.annot_types.specs.Read as a
use Rattle.rules_spec.specs.Shape.{FitAsks}
use Rattle.rules_walk.specs.Asks.{asks_of}
use Rattle.rules_walk.proofs.shape.fits.Given as goal

abbrev pub invariant-loop-number : goal.invariant-loop-number
invariant-loop-number l = FitAsks (asks_of (drop l.number l.asks)) (map a.hint_of (drop l.number l.hints)) ↔ FitAsks (asks_of l.asks) (map a.hint_of l.hints)
