use Rattle.std.proofs.Common.{ap, drop, map}
use Rattle.rules_spec.specs.Capped.{capped_amount}
use Rattle.cert_check.proofs.Ended.{all_made, no_results}
use Rattle.cert_check.proofs.amounts.each_result.Goals as goal

pub returns-in_default : goal.returns-in_default
returns-in_default c = all_made (map (λ q. q.items) c.loop-size.made.items) _ _
    (ap (map (map capped_amount)) (no_results (drop c.loop-size.size-index c.args.sizes.now) c.loop-size.results.now c.in_default.len_below)) c.loop-size.invariant
