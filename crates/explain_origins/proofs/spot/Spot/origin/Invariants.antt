use Rattle.std.proofs.Common.{◌≡◌, drop}
use Rattle.explain_origins.specs.ReadSpots.{from_spot}
use Rattle.explain_origins.proofs.spot.Spot.origin.Given as goal

-- the rest of the path leads from here to where the whole leads from the start
abbrev pub invariant-loop-number : goal.invariant-loop-number
invariant-loop-number l = from_spot l.spot (drop l.number-index l.path) ≡ from_spot l.fn.self l.path
