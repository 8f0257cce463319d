use Rattle.std.proofs.Common.{rules}
use Rattle.normal_spec.specs.Read.{parameters_of}
use Rattle.rules_plan.proofs.Contexts.{type_is}
use Rattle.rules_plan.proofs.context.opened.Goals as goal

pub returns : goal.returns
returns c = search (rules, type_is c.args.x (parameters_of c.args.context.now))
