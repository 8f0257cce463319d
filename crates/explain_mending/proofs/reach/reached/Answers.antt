use Rattle.std.proofs.Common.{subst, sym}
use Rattle.call_groups.specs.Read.{ids_of}
use Rattle.explain_mending.specs.Reached.{AreReached}
use Rattle.explain_mending.proofs.Calls.{of_group}
use Rattle.explain_mending.proofs.reach.reached.Goals as goal

pub loop-place-init : goal.loop-place-init
loop-place-init c P is = subst (AreReached P (ids_of c.args.group.now)) (sym c.in_ok-found.ensures.items) (of_group P c.args.group.now)

pub loop-place-preserved : goal.loop-place-preserved
loop-place-preserved c P is = c.in_ok-add_called.ensures P (ids_of c.args.group.now) is (c.loop-place.invariant P is)
