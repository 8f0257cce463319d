use Rattle.std.proofs.Common.{◌≡◌, ◌++◌, ◌+◌, map, length, vec_len}
use Rattle.base_poly.specs.Plain.{Pair}
use Rattle.base_poly.specs.Read.{index_of, plains_of}
use Rattle.base_poly.proofs.list.append_pairs_within.Given as goal

abbrev pub invariant-loop-second : goal.invariant-loop-second
invariant-loop-second l = record {
  done : plains_of l.found.items ≡ plains_of l.fn.found.items ++ map (λ j. Pair (index_of l.first) j) (plains_of l.yielded);
  len : vec_len l.found ≡ vec_len l.fn.found + length l.yielded;
}
