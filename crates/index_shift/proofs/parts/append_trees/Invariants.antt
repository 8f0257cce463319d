use Rattle.std.proofs.Common.{◌≡◌, ◌+◌, ◌-◌, ◌++◌, length, map}
use Rattle.base_poly.specs.Read.{index_of}
use Rattle.base_poly.proofs.CutsFrom.{cuts_from}
use Rattle.index_shift.proofs.Cuts.{trees_of}
use Rattle.index_shift.proofs.parts.append_trees.Given as goal

abbrev pub invariant-loop-cut : goal.invariant-loop-cut
invariant-loop-cut l =
    l.found.items ++ map (trees_of (index_of l.element)) (cuts_from (length l.entries + 1 - l.cut) l.cut l.entries)
    ≡ l.fn.found.items ++ map (trees_of (index_of l.element)) (cuts_from (length l.entries + 1) 0 l.entries)
