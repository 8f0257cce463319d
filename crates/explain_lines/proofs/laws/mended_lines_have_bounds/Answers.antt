use Rattle.explain_lines.proofs.Staying.{mended_lines_have_bounds}
use Rattle.explain_lines.proofs.laws.mended_lines_have_bounds.Goals as goal

pub returns : goal.returns
returns c = mended_lines_have_bounds
