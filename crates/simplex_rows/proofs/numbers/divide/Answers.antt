use Rattle.std.proofs.Common.{arith}
use Rattle.simplex_rows.proofs.Quotients.{all_divided, comes_next}
use Rattle.simplex_rows.proofs.numbers.divide.Goals as goal

pub returns-clause-divided : goal.returns-clause-divided
returns-clause-divided c = all_divided c.args.by.now c.args.entries.now c.loop-place.entries c.loop-place.invariant.as_long (λ k lt. c.loop-place.invariant.done k (omega arith))

pub returns-in-None-clause-leaves : goal.returns-in-None-clause-leaves
returns-in-None-clause-leaves c = rw (comes_next c.args.by.now c.args.entries.now c.loop-place.entries c.loop-place.place _ c.index-entries-place-in-loop-place.result c.requires.sparse (omega arith) c.loop-place.invariant) c.in-None.ensures
