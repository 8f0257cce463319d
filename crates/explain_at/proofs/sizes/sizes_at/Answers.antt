use Rattle.std.proofs.Common.{ap, ◌∙◌}
use Rattle.explain_sizes.specs.Read as sizes
use Rattle.explain_at.specs.Read.{all_given, parameters, texts}
use Rattle.explain_at.proofs.Open.{filled_asked}
use Rattle.explain_at.proofs.sizes.sizes_at.Goals as goal

pub returns-in-empty-clause-sizes : goal.returns-in-empty-clause-sizes
returns-in-empty-clause-sizes c =
    let checked = ap texts c.deref.ensures.value ∙ c.in_ok-names.ensures in
    let listed = ap texts c.deref-2.ensures.value ∙ c.in_ok-names.ensures in
    let found = ap texts c.as_slice.ensures.value ∙ c.in_ok-missing.ensures in
    let opened = ap sizes.all_open c.deref-in-empty.ensures.value ∙ c.in_ok-open_sizes-in-empty.ensures in
    filled_asked (all_given c.args.given.now) (parameters c.args.params.now) _ _ c.as_slice.result.now _ _ checked listed c.in_ok-check_names.ensures.known found c.in-empty.len_below opened c.in_ok-fill_all-in-empty.ensures
