use Rattle.price_file.specs.Read.{prices_of}
use Rattle.price_file.proofs.Terms.{all_made}
use Rattle.price_file.proofs.nodes.+nodes.Goals as goal

pub apply_all-returns : goal.apply_all-returns
apply_all-returns t c = all_made (prices_of c.args.maker.prices.now) c.loop-arg.made.items c.args.args.now c.loop-arg.arg-index c.loop-arg-test.false c.loop-arg.invariant.made
