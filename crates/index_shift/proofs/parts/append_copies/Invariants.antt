use Rattle.std.proofs.Common.{◌≡◌, ◌++◌, drop}
use Rattle.base_poly.specs.Read.{plains_of}
use Rattle.index_shift.proofs.parts.append_copies.Given as goal

abbrev pub invariant-loop-index : goal.invariant-loop-index
invariant-loop-index l = plains_of l.whole.items ++ plains_of (drop l.index-index l.indices) ≡ plains_of l.fn.whole.items ++ plains_of l.indices
