use Rattle.std.proofs.Common.{◌≡◌, map, take}
use Rattle.std.specs.Fmt.{signed_decimal}
use Rattle.serde_json.specs.View.{view}
use Rattle.cert_json.specs.Form.{entries_json}
use Rattle.cert_json.specs.Fits.{Each}
use Rattle.cert_json.specs.Numbers.{Wide, EntriesHave}
use Rattle.cert_json.proofs.writing.annots_json.Given as goal

abbrev pub invariant-loop-annot : goal.invariant-loop-annot
invariant-loop-annot l = record { same : map view l.items.items ≡ map (entries_json signed_decimal) (take l.annot-index l.annots); numbers : Each (EntriesHave Wide) (take l.annot-index l.annots) }
