use Rattle.std.proofs.Common.{◌≡◌, length}
use Rattle.bound_file.specs.Reading.{distinct}
use Rattle.bound_file.specs.Seen.{tuples_of}
use Rattle.bound_file.proofs.written.are_distinct.Given as goal

abbrev pub invariant-loop-rest : goal.invariant-loop-rest
invariant-loop-rest l = distinct (tuples_of l.rest) ≡ distinct (tuples_of l.terms)

abbrev pub decreases-loop-rest : goal.decreases-loop-rest
decreases-loop-rest l = length l.rest
