use Rattle.linear_rows.proofs.Rowwise.{one_more}
use Rattle.linear_rows.proofs.system.System.add_row.Goals as goal

pub invariant_of-self-2 : goal.invariant_of-self-2
invariant_of-self-2 c = one_more _ _ _ _ _ c.self.invariant (rw (← c.self.view_is) at c.requires) c.in_ok-push.ensures.items
