use Rattle.explain_lines.proofs.Staying.{groups_stay_mended}
use Rattle.explain_lines.proofs.laws.groups_stay_mended.Goals as goal

pub returns : goal.returns
returns c = groups_stay_mended
