use Rattle.std.proofs.Common.{◌≡◌, map, take}
use Rattle.std.specs.Fmt.{signed_decimal}
use Rattle.serde_json.specs.View.{view}
use Rattle.cert_json.specs.Read.{block_of}
use Rattle.cert_json.specs.Form.{block_json}
use Rattle.cert_json.specs.Fits.{Each}
use Rattle.cert_json.specs.Numbers.{Wide, BlockHas}
use Rattle.cert_json.proofs.writing.blocks_json.Given as goal

abbrev pub invariant-loop-block : goal.invariant-loop-block
invariant-loop-block l = record { same : map view l.items.items ≡ map (block_json signed_decimal) (map block_of (take l.block-index l.blocks)); numbers : Each (BlockHas Wide) (map block_of (take l.block-index l.blocks)) }
