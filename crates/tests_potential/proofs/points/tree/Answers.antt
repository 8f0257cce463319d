use Rattle.std.proofs.Common.{◌∙◌}
use Rattle.tests_potential.proofs.SampledPoints.{options}
use Rattle.tests_potential.proofs.points.tree.Goals as goal

pub returns : goal.returns
returns c = options _ _ _ _ _ _ (c.in_ok-reserve.ensures.cells ∙ c.new-heap.ensures.cells) c.add.ensures.cells c.add-2.ensures.cells c.add-3.ensures.cells c.add-4.ensures.cells c.add-5.ensures.cells
