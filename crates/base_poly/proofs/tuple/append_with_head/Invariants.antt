use Rattle.std.proofs.Common.{◌≡◌, ◌++◌, ◌∷◌, ◌+◌, map, drop, vec_len}
use Rattle.base_poly.specs.Read.{index_of}
use Rattle.base_poly.proofs.tuple.append_with_head.Given as goal

abbrev pub invariant-loop-rest : goal.invariant-loop-rest
invariant-loop-rest l = record {
  done : l.found.items ++ map (λ r. index_of l.first ∷ r) (drop l.rest-index l.rests) ≡ l.fn.found.items ++ map (λ r. index_of l.first ∷ r) l.rests;
  len : vec_len l.found ≡ vec_len l.fn.found + l.rest-index;
}
