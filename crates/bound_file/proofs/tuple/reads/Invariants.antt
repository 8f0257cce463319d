use Rattle.std.proofs.Common.{◌≡◌, false, [], ◌∷◌, drop}
use Rattle.bound_file.specs.Tuples.{Index, More, reads, next_first}
use Rattle.bound_file.proofs.tuple.reads.Given as goal

abbrev pub invariant-loop-byte : goal.invariant-loop-byte
invariant-loop-byte l = reads l.seen (next_first l.goals.items) (drop l.byte-index l.text) ≡ reads false (Index ∷ More 62 ∷ []) l.text
