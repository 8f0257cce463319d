-- What is asked for, as plain data.
use Rattle.std.specs.Prelude.{List, map, Vec}
use Rattle.std.specs.Global.{Global}
use Rattle.rules_spec.specs.Asked as a
use Rattle.rules_walk.specs.declared.ask.Ask.{Ask}
use Rattle.rules_walk.specs.Asks.{asks_of}

abbrev pub all_asks_of : List (Vec Ask Global) → List (List a.Ask)
all_asks_of asks = map (λ (v : Vec Ask Global). asks_of v.items) asks
