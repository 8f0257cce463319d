use Rattle.call_groups.specs.Read.{rows_of}
use Rattle.call_groups.specs.Sets.{has}
use Rattle.call_groups.proofs.Leads.{Leading}
use Rattle.call_groups.proofs.reach.leading_to.Given as goal

abbrev pub invariant-loop-from : goal.invariant-loop-from
invariant-loop-from l = Leading (rows_of l.leads) l.fun l.from (has l.set)
