use Rattle.std.proofs.Common.{◌≡◌, ◌++◌, drop}
use Rattle.base_poly.specs.Read.{context_of}
use Rattle.tuple_ranks.specs.Slots.{slots_between}
use Rattle.tuple_ranks.proofs.slots.slots_between.Given as goal

abbrev pub invariant-loop-at : goal.invariant-loop-at
invariant-loop-at l = l.slots.items ++ slots_between (context_of l.from) (context_of l.to) l.d l.at (drop l.at l.picks) ≡ slots_between (context_of l.from) (context_of l.to) l.d 0 l.picks
