use Rattle.simplex_rows.proofs.Differing.{differs}
use Rattle.simplex_rows.proofs.numbers.any_less.Goals as goal

pub returns : goal.returns
returns c = differs c.args.x.now c.args.times.now c.args.q.now c.in_ok-product.product c.sub.result c.in_ok-product.ensures c.sub.ensures.fits c.sub.ensures.value
