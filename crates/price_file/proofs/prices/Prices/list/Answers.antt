use Rattle.price_file.specs.Construct.{place}
use Rattle.price_file.proofs.Tables.{small_set}
use Rattle.price_file.proofs.prices.Prices.list.Goals as goal

pub invariant_of-self : goal.invariant_of-self
invariant_of-self c = record { small = λ construct. small_set c.args.self.now.listed c.place.result (place construct) c.args.price c.requires (c.args.self.now.small construct) }
