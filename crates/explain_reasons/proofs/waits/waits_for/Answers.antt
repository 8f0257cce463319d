use Rattle.std.proofs.lemmas.List.Elements.{Contains-get_or}
use Rattle.explain_reasons.specs.Asked.{program_in, found_in}
use Rattle.explain_reasons.proofs.Calling.{waits}
use Rattle.explain_reasons.proofs.waits.waits_for.Goals as goal

pub returns-then-is_some : goal.returns-then-is_some
returns-then-is_some c =
    let one = Contains-get_or c.args.group.now c.loop-fun.fun-index (record { 0 = 0 }) c.loop-fun-test.true in
    waits (program_in c.args.asked) c.args.asked.groups.now (found_in c.args.asked) c.args.group.now _ c.callees.result.now c.requires.grouping one c.callees.ensures
    c.lacking_outside-outside.result c.lacking_outside-outside.ensures
