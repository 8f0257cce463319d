use Rattle.std.proofs.Common.{◌≤◌, length, rules}
use Rattle.normal_spec.specs.Read.{parameters_of}
use Rattle.rules_plan.proofs.Contexts.{named_ends}
use Rattle.rules_plan.proofs.context.named.Goals as goal

pub returns-in-None : goal.returns-in-None
returns-in-None c =
    let past : length c.args.types.now ≤ c.loop-at.at = search rules in
    named_ends c.args.names.now c.args.types.now c.loop-at.at (parameters_of c.loop-at.found.items) _ past c.loop-at.invariant
