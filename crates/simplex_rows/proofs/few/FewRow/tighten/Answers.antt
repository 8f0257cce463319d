use Rattle.simplex_rows.proofs.FewDividing.{numbers_short}
use Rattle.simplex_rows.proofs.few.FewRow.tighten.Goals as goal

pub greatest-self-inside-requires : goal.greatest-self-inside-requires
greatest-self-inside-requires c = rw c.deref.ensures.value (numbers_short _ c.self.invariant)
