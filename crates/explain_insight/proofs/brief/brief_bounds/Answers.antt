use Rattle.cost_free.specs.declared.task.Meter.TheVariants.{Ticks, Cells, Work}
use Rattle.explain_insight.proofs.brief.brief_bounds.Goals as goal

pub push_brief-requires : goal.push_brief-requires
push_brief-requires c = c.requires Ticks

pub push_brief-requires-2 : goal.push_brief-requires-2
push_brief-requires-2 c = c.requires Cells

pub push_brief-requires-3 : goal.push_brief-requires-3
push_brief-requires-3 c = c.requires Work
