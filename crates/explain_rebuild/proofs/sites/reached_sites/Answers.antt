use Rattle.std.proofs.Common.{subst}
use Rattle.std.specs.List.{Contains}
use Rattle.raml_syntax.specs.Read.{program_of}
use Rattle.call_groups.specs.Read.{ids_of}
use Rattle.explain_rebuild.specs.Reached.{IsReachedSite, NamesOneOf}
use Rattle.explain_mending.proofs.Adding.{all_with, at_place}
use Rattle.explain_rebuild.proofs.Reaching.{site_reached}
use Rattle.explain_rebuild.proofs.sites.reached_sites.Goals as goal

pub loop-site-preserved : goal.loop-site-preserved
loop-site-preserved c =
    let P = program_of c.args.program.now in
    let group = ids_of c.args.group.now in
    let here = at_place c.args.sites.now c.loop-site.site-index c.site-item.result c.loop-site-test.true c.site-item.is in (
      all_with (Contains c.args.sites.now) _ c.site-item.result c.loop-site.found.items _ c.loop-site.invariant.0 (λ so. here) c.in_ok-add_site.ensures,
      all_with (IsReachedSite P group) (NamesOneOf P c.site-item.result c.deref.result.now) c.site-item.result c.loop-site.found.items _ c.loop-site.invariant.1
          (λ names. site_reached P group c.in_ok-funs.funs.items c.site-item.result (c.in_ok-funs.ensures P c.requires.grouping)
          (subst (NamesOneOf P c.site-item.result) c.deref.ensures.value names)) c.in_ok-add_site.ensures,
    )
