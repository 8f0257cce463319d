use Rattle.std.proofs.Common.{◌∙◌}
use Rattle.tests_potential.proofs.SampledPoints.{three}
use Rattle.tests_potential.proofs.points.list.Goals as goal

pub returns : goal.returns
returns c = three _ _ _ _ (c.in_ok-reserve.ensures.cells ∙ c.new-heap.ensures.cells) c.add.ensures.cells c.add-2.ensures.cells c.add-3.ensures.cells
