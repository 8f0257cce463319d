use Rattle.std.proofs.Common.{◌≡◌, ◌++◌, drop, map}
use Rattle.base_poly.specs.Read.{context_of}
use Rattle.tuple_ranks.specs.Columns.{sizes}
use Rattle.tuple_ranks.specs.Read.{items_of}
use Rattle.tuple_ranks.proofs.spots.all_sizes.Given as goal

abbrev pub invariant-loop-ty : goal.invariant-loop-ty
invariant-loop-ty l = map items_of l.found.items ++ sizes (context_of (drop l.ty-index l.types)) l.d ≡ sizes (context_of l.types) l.d
