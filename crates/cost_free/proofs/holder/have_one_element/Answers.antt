use Rattle.std.proofs.Common.{ap, ◌∙◌}
use Rattle.cost_free.specs.Target.{have_one_element}
use Rattle.cost_free.specs.Read.{holders_of}
use Rattle.cost_free.proofs.Sets.{cut_first}
use Rattle.cost_free.proofs.holder.have_one_element.Goals as goal

pub returns-in-len1-up : goal.returns-in-len1-up
returns-in-len1-up c =
    c.hold.ensures ∙ ap (λ l. have_one_element (holders_of l)) (cut_first c.args.holders.now c.first-item.result c.in-len1-up.len_at_least c.first-item.is)
