use Rattle.std.proofs.Common.{subst}
use Rattle.std.specs.List.{Contains}
use Rattle.std.proofs.lemmas.Result.{on_ok_weaker}
use Rattle.explain_mending.proofs.Calls.{reached_more}
use Rattle.explain_mending.proofs.Adding.{at_place}
use Rattle.explain_mending.proofs.reach.add_called.Goals as goal

pub returns-in-Some : goal.returns-in-Some
returns-in-Some c =
    let found = c.in-Some.ensures.lookup in
    let here = subst (λ fs. Contains fs c.in-Some.fun.now) c.deref.ensures.value (at_place c.deref.result.now c.args.place c.in-Some.fun.now found.3.0 found.1) in
    on_ok_weaker c.add_all_new.result
    (λ both. λ P group is are. reached_more P group c.args.groups.now c.args.found.now.items c.in-Some.fun.now c.callees.result.now _ is are here c.callees.ensures both)
    c.add_all_new.ensures
