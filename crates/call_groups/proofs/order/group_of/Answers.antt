use Rattle.std.proofs.Common.{sym, ap, ◌∙◌}
use Rattle.call_groups.specs.Sets.{with_one, shared}
use Rattle.call_groups.proofs.Lists.{row_read}
use Rattle.call_groups.proofs.order.group_of.Goals as goal

pub returns : goal.returns
returns c =
    let row = row_read c.args.leads.now c.args.fun (record { low = 0; high = 0 }) c.requires.there in
    c.insert.ensures ∙ ap (with_one c.args.fun) (c.intersection-group.ensures ∙ (λ i. shared (sym row i) (c.leading_to.ensures i)))
