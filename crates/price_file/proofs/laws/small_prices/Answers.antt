use Rattle.price_file.proofs.Computed.{examples_hold}
use Rattle.price_file.proofs.laws.small_prices.Goals as goal

pub returns : goal.returns
returns c = examples_hold
