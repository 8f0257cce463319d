use Rattle.std.proofs.Common.{◌≡◌, ◌++◌, map, drop, option_map}
use Rattle.serde_json.specs.View.{view}
use Rattle.cert_json.specs.Read.{hint_of}
use Rattle.cert_json.specs.Reading as spec
use Rattle.cert_json.specs.Reading.{each, number_of}
use Rattle.cert_json.proofs.reading.hints.Given as goal

abbrev pub invariant-loop-item : goal.invariant-loop-item
invariant-loop-item l = each (spec.hint_of number_of) (map view l.items) ≡ option_map (λ more. map hint_of l.found.items ++ more) (each (spec.hint_of number_of) (map view (drop l.item-index l.items)))
