use Rattle.std.proofs.Common.{rules}
use Rattle.rules_plan.proofs.Contexts.{put_is}
use Rattle.rules_plan.proofs.context.put.Goals as goal

pub returns : goal.returns
returns c = search (rules, put_is c.args.x c.args.new.now c.args.context.now)
