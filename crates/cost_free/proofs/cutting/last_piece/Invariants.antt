use Rattle.std.proofs.Common.{◌≡◌, ◌++◌, ◌-◌, suc}
use Rattle.base_poly.specs.Read.{plains_of}
use Rattle.cost_free.specs.Target.{last_piece}
use Rattle.cost_free.specs.Read.{pieces_of}
use Rattle.cost_free.proofs.cutting.last_piece.Given as goal

abbrev pub invariant-loop : goal.invariant-loop
invariant-loop l = pieces_of l.pieces.items ++ last_piece (suc (l.count - l.counter)) (plains_of l.entries) ≡ last_piece l.count (plains_of l.entries)
