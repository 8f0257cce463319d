use Rattle.std.specs.Fmt.{signed_decimal}
use Rattle.serde_json.specs.View.{view}
use Rattle.cert_json.specs.Read.{block_of}
use Rattle.cert_json.specs.Form.{block_json}
use Rattle.cert_json.specs.Numbers.{Wide, BlockHas}
use Rattle.cert_json.proofs.Walked.{same_step, each_same}
use Rattle.cert_json.proofs.writing.blocks_json.Goals as goal

pub loop-block-preserved : goal.loop-block-preserved
loop-block-preserved c = record {
  same = same_step view (block_json signed_decimal) block_of c.loop-block.items.items c.push.new.list.items c.in_ok-block_json.field-0 c.args.blocks.now _ c.block-item.result c.loop-block-test.true c.block-item.is c.in_ok-push.ensures.ok c.in_ok-block_json.ensures.value c.loop-block.invariant.same;
  numbers = each_same (BlockHas Wide) block_of c.args.blocks.now _ c.block-item.result c.loop-block-test.true c.block-item.is c.loop-block.invariant.numbers c.in_ok-block_json.ensures.numbers;
}
