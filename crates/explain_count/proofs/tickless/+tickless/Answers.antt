use Rattle.explain_count.proofs.Copies.{all_made}
use Rattle.explain_count.proofs.tickless.+tickless.Goals as goal

pub all_without_ticks-returns : goal.all_without_ticks-returns
all_without_ticks-returns t c = all_made c.loop-arg.made.items c.args.args.now c.loop-arg.arg-index c.loop-arg-test.false c.loop-arg.invariant.made
