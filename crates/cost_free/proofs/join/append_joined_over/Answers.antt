use Rattle.std.proofs.Common.{◌++◌, ap, ◌∙◌}
use Rattle.raml_syntax.specs.Read.{ty_of}
use Rattle.cost_free.specs.Joining.{all_joined}
use Rattle.cost_free.proofs.Low.{over_holders}
use Rattle.cost_free.proofs.join.append_joined_over.Goals as goal

pub returns-in_ok-append_joined-in-len1-up : goal.returns-in_ok-append_joined-in-len1-up
returns-in_ok-append_joined-in-len1-up c =
    c.in_ok-append_joined-in-len1-up.ensures
    ∙ ap (λ l. all_joined c.args.found.now.items ++ l)
    (over_holders (ty_of c.args.ty.now) c.args.d c.args.holders.now c.first-item.result _ c.in-len1-up.len_at_least c.first-item.is c.in_ok-lists-in-len1-up.ensures.all)
