use Rattle.cost_free.specs.declared.task.Meter.TheVariants.{Ticks, Cells, Work}
use Rattle.explain_bounds.proofs.line.push_lines.Goals as goal

pub add_line-requires-clause-finding : goal.add_line-requires-clause-finding
add_line-requires-clause-finding c = c.requires.findings Ticks

pub add_line-requires-2-clause-finding : goal.add_line-requires-2-clause-finding
add_line-requires-2-clause-finding c = c.requires.findings Cells

pub add_line-requires-3-clause-finding : goal.add_line-requires-3-clause-finding
add_line-requires-3-clause-finding c = c.requires.findings Work
