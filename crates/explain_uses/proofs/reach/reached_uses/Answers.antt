use Rattle.std.proofs.Common.{subst}
use Rattle.std.specs.List.{Contains}
use Rattle.raml_syntax.specs.Read.{program_of}
use Rattle.call_groups.specs.Read.{ids_of}
use Rattle.explain_uses.specs.Reached.{IsReachedUse, NamesOneOf}
use Rattle.explain_mending.proofs.Adding.{all_with, at_place}
use Rattle.explain_uses.proofs.Reaching.{use_reached}
use Rattle.explain_uses.proofs.reach.reached_uses.Goals as goal

pub loop-later-preserved : goal.loop-later-preserved
loop-later-preserved c =
    let P = program_of c.args.program.now in
    let group = ids_of c.args.group.now in
    let here = at_place c.args.uses.now c.loop-later.later-index c.later-item.result c.loop-later-test.true c.later-item.is in (
      all_with (Contains c.args.uses.now) _ c.later-item.result c.loop-later.found.items _ c.loop-later.invariant.0 (λ so. here) c.in_ok-add_if_in.ensures,
      all_with (IsReachedUse P group) (NamesOneOf P c.later-item.result c.deref.result.now) c.later-item.result c.loop-later.found.items _ c.loop-later.invariant.1
          (λ names. use_reached P group c.in_ok-funs.funs.items c.later-item.result (c.in_ok-funs.ensures P c.requires.grouping)
          (subst (NamesOneOf P c.later-item.result) c.deref.ensures.value names)) c.in_ok-add_if_in.ensures,
    )
