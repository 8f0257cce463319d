use Rattle.std.proofs.Common.{◌≡◌, map, take}
use Rattle.std.specs.Fmt.{signed_decimal}
use Rattle.serde_json.specs.View.{view}
use Rattle.cert_json.specs.Form.{entry_json}
use Rattle.cert_json.specs.Numbers.{Wide, EntriesHave}
use Rattle.cert_json.proofs.writing.entries_json.Given as goal

abbrev pub invariant-loop-position : goal.invariant-loop-position
invariant-loop-position l = record { same : map view l.items.items ≡ map (entry_json signed_decimal) (take l.position-index l.entries); numbers : EntriesHave Wide (take l.position-index l.entries) }
