use Rattle.std.proofs.Common.{rules}
use Rattle.explain_sizes.specs.Read.{all_sizes}
use Rattle.explain_at.specs.Asked.{asked}
use Rattle.explain_at.specs.Read.{all_given, parameters}
use Rattle.explain_bounds.proofs.Fitting.{filled_at}
use Rattle.explain_bounds.proofs.fitted.fit.Goals as goal

pub returns-in_ok-sizes-in-At-clause-told : goal.returns-in_ok-sizes-in-At-clause-told
returns-in_ok-sizes-in-At-clause-told c =
    let gs = all_given c.in-At.given.now in
    let filled = filled_at gs (asked gs (parameters c.args.params.now)) (all_sizes c.in_ok-sizes-in-At.sizes.items) c.in_ok-sizes-in-At.ensures.sizes in
    search (rules, filled)
