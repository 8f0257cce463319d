use Rattle.std.proofs.Common.{◌≡◌, ◌++◌, ◌+◌, map, length, vec_len}
use Rattle.base_poly.specs.Plain.{OneEntry}
use Rattle.base_poly.specs.Read.{plains_of}
use Rattle.base_poly.proofs.list.append_options.Given as goal

abbrev pub invariant-loop-entry : goal.invariant-loop-entry
invariant-loop-entry l = record {
  done : plains_of l.found.items ≡ plains_of l.fn.found.items ++ map OneEntry (plains_of l.yielded);
  len : vec_len l.found ≡ vec_len l.fn.found + length l.yielded;
}
