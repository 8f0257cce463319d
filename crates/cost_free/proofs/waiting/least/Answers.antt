use Rattle.std.proofs.Common.{◌∙◌, length}
use Rattle.std.proofs.lemmas.List.{drop_all}
use Rattle.cost_free.specs.Read.{lists_of, outcomes_of}
use Rattle.cost_free.proofs.Called.{least_is_first}
use Rattle.cost_free.proofs.waiting.least.Goals as goal

pub returns : goal.returns
returns c =
    let all = drop_all c.loop-member.member-index c.row-members.result.now c.loop-member-test.false in
    (rw all at c.loop-member.invariant)
    ∙ least_is_first (lists_of c.args.groups.now) (lists_of c.args.calls.now) c.args.group c.args.meter (outcomes_of c.args.done.now) (length c.args.calls.now)
