use Rattle.std.proofs.Common.{◌∙◌}
use Rattle.rules_walk.proofs.Bringing.{number_is, no_number}
use Rattle.rules_walk.proofs.entries.number_at.Goals as goal

pub returns-in-Some : goal.returns-in-Some
returns-in-Some g c =
    let look = c.in-Some.ensures.lookup in
    c.number.ensures ∙ number_is g.T.Kind.kind c.args.from.now c.args.place c.in-Some.number.now look.3.0 look.1

pub returns-in-None : goal.returns-in-None
returns-in-None g c = c.none.ensures ∙ no_number g.T.Kind.kind c.args.from.now c.args.place c.in-None.ensures.lookup.3
