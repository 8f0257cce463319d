use Rattle.std.proofs.Common.{◌≡◌, map, take}
use Rattle.std.specs.Fmt.{signed_decimal}
use Rattle.serde_json.specs.View.{view}
use Rattle.cert_json.specs.Read.{sig_of}
use Rattle.cert_json.specs.Form.{sig_json}
use Rattle.cert_json.specs.Fits.{Each}
use Rattle.cert_json.specs.Numbers.{Wide, SigHas}
use Rattle.cert_json.proofs.writing.sigs_json.Given as goal

abbrev pub invariant-loop-sig : goal.invariant-loop-sig
invariant-loop-sig l = record { same : map view l.items.items ≡ map (sig_json signed_decimal) (map sig_of (take l.sig-index l.sigs)); numbers : Each (SigHas Wide) (map sig_of (take l.sig-index l.sigs)) }
