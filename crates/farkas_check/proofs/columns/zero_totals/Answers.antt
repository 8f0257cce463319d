use Rattle.std.proofs.Common.{[], Some}
use Rattle.farkas_check.proofs.Walking.{totals_more}
use Rattle.farkas_check.proofs.columns.zero_totals.Goals as goal

pub loop-preserved : goal.loop-preserved
loop-preserved c = totals_more c.loop.counter (λ _. []) c.loop.totals.items c.push.new.self.items (Some c.zero.result) c.in_ok-push.ensures.items c.zero.ensures c.loop.invariant
