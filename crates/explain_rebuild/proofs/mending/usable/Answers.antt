use Rattle.std.specs.List.{Contains}
use Rattle.explain_mending.proofs.Adding.{all_with, at_place}
use Rattle.explain_rebuild.proofs.mending.usable.Goals as goal

pub loop-site-preserved : goal.loop-site-preserved
loop-site-preserved c =
    let here = at_place c.args.sites.now c.loop-site.site-index c.site-item.result c.loop-site-test.true c.site-item.is in
    all_with (Contains c.args.sites.now) _ c.site-item.result c.loop-site.found.items _ c.loop-site.invariant (λ so. here) c.in_ok-add_usable.ensures
