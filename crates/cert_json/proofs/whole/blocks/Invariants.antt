use Rattle.std.proofs.Common.{◌≡◌, ◌++◌, map, drop}
use Rattle.serde_json.specs.View.{view}
use Rattle.cert_json.specs.Read.{block_of}
use Rattle.cert_json.specs.Steps.{map_ok, read_blocks}
use Rattle.cert_json.proofs.whole.blocks.Given as goal

abbrev pub invariant-loop-number : goal.invariant-loop-number
invariant-loop-number l = read_blocks l.work 0 (map view l.items) ≡ map_ok (λ more. map block_of l.found.items ++ more) (read_blocks l.work l.number (map view (drop l.number l.items)))
