use Rattle.std.proofs.Common.{◌≡◌, drop}
use Rattle.bound_file.specs.Reading.{all_placed}
use Rattle.bound_file.specs.Seen.{all_counted_of}
use Rattle.bound_file.proofs.places.all_placed.Given as goal

abbrev pub invariant-loop-term : goal.invariant-loop-term
invariant-loop-term l = all_placed l.tuples (all_counted_of (drop l.term-index l.terms)) ≡ all_placed l.tuples (all_counted_of l.terms)
