use Rattle.std.proofs.Common.{◌∙◌}
use Rattle.share_normal.proofs.Members.{any_among}
use Rattle.share_normal.proofs.variables.among.Goals as goal

pub returns : goal.returns
returns c = c.contains.ensures.value ∙ any_among c.args.variable c.args.others.now
