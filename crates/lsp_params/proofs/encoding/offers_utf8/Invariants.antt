use Rattle.std.proofs.Common.{◌≡◌, map, drop}
use Rattle.serde_json.specs.View.{view}
use Rattle.lsp_params.specs.Agreed.{offers_utf8}
use Rattle.lsp_params.proofs.encoding.offers_utf8.Given as goal

abbrev pub invariant-loop-encoding : goal.invariant-loop-encoding
invariant-loop-encoding l = offers_utf8 (map view (drop l.encoding-index l.encodings)) ≡ offers_utf8 (map view l.encodings)
