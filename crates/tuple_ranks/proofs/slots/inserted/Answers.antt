use Rattle.std.proofs.Common.{◌≡◌, ◌∙◌, min, length, rules}
use Rattle.tuple_ranks.proofs.Loops.{inserted_is}
use Rattle.tuple_ranks.proofs.slots.inserted.Goals as goal

pub returns : goal.returns
returns c =
    let at : c.min-at.result ≡ min c.args.place (length c.args.others.items) = search rules in
    c.in_ok-insert.ensures.items ∙ inserted_is c.args.place c.min-at.result c.args.item c.args.others.items at
