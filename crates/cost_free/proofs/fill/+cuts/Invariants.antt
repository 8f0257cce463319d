use Rattle.std.proofs.Common.{◌≡◌, ◌++◌, ◌+◌, ◌*◌, ◌-◌, map, length}
use Rattle.raml_syntax.specs.Read.{ty_of}
use Rattle.cost_free.specs.Cut.{cut_pieces}
use Rattle.cost_free.specs.Read.{pieces_of}
use Rattle.base_poly.proofs.CutsFrom.{cuts_from}
use Rattle.cost_free.proofs.Cuts.{tuple_with}
use Rattle.cost_free.proofs.fill.+cuts.Given as goal

abbrev pub decreases-append_filled : goal.decreases-append_filled
decreases-append_filled l = 3 * l.count

abbrev pub decreases-append_cuts : goal.decreases-append_cuts
decreases-append_cuts l = 3 * l.count + 2

abbrev pub decreases-append_cut : goal.decreases-append_cut
decreases-append_cut l = 3 * l.count + 1

abbrev pub invariant-append_cuts-loop-cut : goal.invariant-append_cuts-loop-cut
invariant-append_cuts-loop-cut l = record {
  done :
      l.found.items ++ map (tuple_with (ty_of l.ty) l.places (pieces_of l.fn.before.items)) (cut_pieces l.count (cuts_from (length l.entries + 1 - l.cut) l.cut l.entries))
      ≡ l.fn.found.items ++ map (tuple_with (ty_of l.ty) l.places (pieces_of l.fn.before.items)) (cut_pieces l.count (cuts_from (length l.entries + 1) 0 l.entries));
  kept : l.before.items ≡ l.fn.before.items;
}
