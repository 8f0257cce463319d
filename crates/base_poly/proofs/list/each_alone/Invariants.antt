use Rattle.std.proofs.Common.{◌≡◌, ◌∷◌, [], map, length, vec_len}
use Rattle.base_poly.specs.Read.{plains_of}
use Rattle.base_poly.proofs.list.each_alone.Given as goal

abbrev pub invariant-loop-index : goal.invariant-loop-index
invariant-loop-index l = record {
  done : l.found.items ≡ map (λ i. i ∷ []) (plains_of l.yielded);
  len : vec_len l.found ≡ length l.yielded;
}
