-- What the code's asks are as plain data.
use Rattle.std.specs.Prelude.{ℕ, List, map}
use Rattle.rules_spec.specs.Plan as p
use Rattle.rules_spec.specs.Asked as a
use Rattle.rules_walk.specs.declared.ask.Ask.{Ask}
use Rattle.rules_walk.specs.declared.ask.Ask.TheVariants.{Results, Copies, Multiples}

abbrev pub ask_of : Ask → a.Ask
ask_of (Results sizes) = a.ResultsOf sizes.items
ask_of (Copies size) = a.CopiesOf size
ask_of (Multiples blocks) = a.MultiplesOf blocks.items

abbrev pub asks_of : List Ask → List a.Ask
asks_of asks = map ask_of asks

-- how many positions the result has at each tuple
abbrev pub sizes_of : List p.Part → List ℕ
sizes_of parts = map (λ (part : p.Part). part.size) parts
