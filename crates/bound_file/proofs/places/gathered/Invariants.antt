use Rattle.std.proofs.Common.{◌≡◌, ◌++◌, drop}
use Rattle.bound_file.specs.Read.{coefficients_of, ArePositive}
use Rattle.bound_file.specs.Reading.{gathered}
use Rattle.bound_file.specs.Seen.{all_counted_of}
use Rattle.bound_file.proofs.places.gathered.Given as goal

abbrev pub invariant-loop-tuple : goal.invariant-loop-tuple
invariant-loop-tuple l = record {
  position : l.position ≡ l.tuple-index;
  gathered : coefficients_of l.found.items ++ gathered l.position (drop l.tuple-index l.tuples) (all_counted_of l.terms) ≡ gathered 0 l.tuples (all_counted_of l.terms);
  positive : ArePositive l.found.items;
}
