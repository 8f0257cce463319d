use Rattle.std.proofs.Common.{◌≡◌, ◌++◌, map, drop, option_map}
use Rattle.serde_json.specs.View.{view}
use Rattle.cert_json.specs.Read.{sig_of}
use Rattle.cert_json.specs.Reading as spec
use Rattle.cert_json.specs.Reading.{each, number_of}
use Rattle.cert_json.proofs.reading.sigs.Given as goal

abbrev pub invariant-loop-item : goal.invariant-loop-item
invariant-loop-item l = each (spec.sig_of number_of) (map view l.items) ≡ option_map (λ more. map sig_of l.found.items ++ more) (each (spec.sig_of number_of) (map view (drop l.item-index l.items)))
