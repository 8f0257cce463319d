use Rattle.simplex_rows.proofs.short.ShortNumbers.widened.Goals as goal

pub returns-in-Few-clause-ends : goal.returns-in-Few-clause-ends
returns-in-Few-clause-ends c k e = c.widened.ensures.ends k (rw c.in-Few.is at e)

pub returns-in_ok-listed-in-Many-clause-ends : goal.returns-in_ok-listed-in-Many-clause-ends
returns-in_ok-listed-in-Many-clause-ends c k e = c.widened-in-Many.ensures.ends k (rw c.in_ok-listed-in-Many.ensures (rw c.in-Many.is at e))
