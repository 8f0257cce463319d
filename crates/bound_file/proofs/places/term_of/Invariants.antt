use Rattle.std.proofs.Common.{◌≡◌, drop}
use Rattle.bound_file.specs.Reading.{term_of}
use Rattle.bound_file.specs.Seen.{all_counted_of}
use Rattle.bound_file.proofs.places.term_of.Given as goal

abbrev pub invariant-loop-term : goal.invariant-loop-term
invariant-loop-term l = term_of l.tuple (all_counted_of (drop l.term-index l.terms)) ≡ term_of l.tuple (all_counted_of l.terms)
