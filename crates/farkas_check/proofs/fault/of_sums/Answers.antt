use Rattle.farkas_check.proofs.fault.of_sums.Goals as goal

pub returns : goal.returns
returns c = let fault = c.of_check.ensures _ c.sum_totals.ensures in rw c.unknowns.ensures at fault
