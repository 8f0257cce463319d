use Rattle.tests_inference.proofs.Blocks.{not_none}
use Rattle.tests_inference.proofs.raising.has_ticks.Goals as goal

pub returns-then-is_of_ticks : goal.returns-then-is_of_ticks
returns-then-is_of_ticks c is =
    not_none _ c.args.blocks.now c.loop-place.place c.index-blocks-place.result c.loop-place-test.true c.index-blocks-place.is (c.if-is_of_ticks.ensures is)
