use Rattle.std.proofs.Common.{◌≡◌, map, take}
use Rattle.std.specs.Fmt.{signed_decimal}
use Rattle.serde_json.specs.View.{view}
use Rattle.cert_json.specs.Read.{hint_of}
use Rattle.cert_json.specs.Form.{hint_json}
use Rattle.cert_json.specs.Fits.{Each}
use Rattle.cert_json.specs.Numbers.{Wide, HintHas}
use Rattle.cert_json.proofs.writing.hints_json.Given as goal

abbrev pub invariant-loop-hint : goal.invariant-loop-hint
invariant-loop-hint l = record { same : map view l.items.items ≡ map (hint_json signed_decimal) (map hint_of (take l.hint-index l.hints)); numbers : Each (HintHas Wide) (map hint_of (take l.hint-index l.hints)) }
