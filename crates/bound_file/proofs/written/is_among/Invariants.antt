use Rattle.std.proofs.Common.{◌≡◌, drop}
use Rattle.std.specs.List.{list_any}
use Rattle.std.specs.Str.{bytes_eq}
use Rattle.bound_file.specs.Seen.{tuples_of}
use Rattle.bound_file.proofs.written.is_among.Given as goal

abbrev pub invariant-loop-term : goal.invariant-loop-term
invariant-loop-term l = list_any (bytes_eq l.tuple) (tuples_of (drop l.term-index l.terms)) ≡ list_any (bytes_eq l.tuple) (tuples_of l.terms)
