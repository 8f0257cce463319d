use Rattle.std.proofs.Common.{◌∙◌}
use Rattle.share_normal.proofs.Members.{any_among}
use Rattle.rules_plan.proofs.free.among.Goals as goal

pub returns : goal.returns
returns c = c.contains.ensures.value ∙ any_among c.args.x c.args.others.now
