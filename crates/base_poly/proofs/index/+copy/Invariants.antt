use Rattle.std.proofs.Common.{◌≡◌, ◌++◌, drop}
use Rattle.base_poly.specs.Read.{plains_of}
use Rattle.base_poly.proofs.index.+copy.Given as goal

abbrev pub invariant-copy_all-loop-index : goal.invariant-copy_all-loop-index
invariant-copy_all-loop-index l = plains_of l.copies.items ++ plains_of (drop l.index-index l.indices) ≡ plains_of l.indices
