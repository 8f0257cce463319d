use Rattle.std.proofs.Common.{◌≡◌, map, take}
use Rattle.std.specs.Fmt.{signed_decimal}
use Rattle.serde_json.specs.View.{view}
use Rattle.cert_json.specs.Read.{hints_of}
use Rattle.cert_json.specs.Form.{hints_json}
use Rattle.cert_json.specs.Fits.{Each}
use Rattle.cert_json.specs.Numbers.{Wide, HintsHave}
use Rattle.cert_json.proofs.writing.all_hints_json.Given as goal

abbrev pub invariant-loop-hints : goal.invariant-loop-hints
invariant-loop-hints l = record { same : map view l.items.items ≡ map (hints_json signed_decimal) (map hints_of (take l.hints-index l.hints)); numbers : Each (HintsHave Wide) (map hints_of (take l.hints-index l.hints)) }
