use Rattle.price_file.proofs.CostSame.{costs_prices}
use Rattle.price_file.proofs.laws.applied_costs_prices.Goals as goal

pub returns : goal.returns
returns c = costs_prices
