use Rattle.std.proofs.Common.{◌≡◌, map, length, vec_len}
use Rattle.base_poly.specs.Plain.{many}
use Rattle.base_poly.specs.Read.{plains_of}
use Rattle.base_poly.proofs.list.as_lists.Given as goal

abbrev pub invariant-loop-tuple : goal.invariant-loop-tuple
invariant-loop-tuple l = record {
  done : plains_of l.found.items ≡ map many l.yielded;
  len : vec_len l.found ≡ length l.yielded;
}
