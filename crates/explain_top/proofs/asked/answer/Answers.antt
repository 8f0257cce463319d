use Rattle.std.proofs.Common.{refl}
use Rattle.explain_top.proofs.Shelves.{untouched}
use Rattle.explain_top.proofs.asked.answer.Goals as goal

pub returns-in-Budget-clause-done : goal.returns-in-Budget-clause-done
returns-in-Budget-clause-done g c =
    let faults = g.W.Shelf.faults c.args.shelf.now in
    rw c.in-Budget.is (c.budget.ensures.told, untouched faults faults (g.W.Shelf.holds c.args.shelf.now))

pub returns-in-WriteBudget-clause-done : goal.returns-in-WriteBudget-clause-done
returns-in-WriteBudget-clause-done g c = rw c.in-WriteBudget.is (c.leave_draft.ensures.left, refl)

pub returns-in-Verify-clause-done : goal.returns-in-Verify-clause-done
returns-in-Verify-clause-done g c =
    let faults = g.W.Shelf.faults c.args.shelf.now in
    rw c.in-Verify.is (c.verify.ensures.told, untouched faults faults (g.W.Shelf.holds c.args.shelf.now))

pub returns-in-Why-clause-done : goal.returns-in-Why-clause-done
returns-in-Why-clause-done g c = rw c.in-Why.is c.why.ensures.told

pub returns-in-Profile-clause-done : goal.returns-in-Profile-clause-done
returns-in-Profile-clause-done g c =
    let faults = g.W.Shelf.faults c.args.shelf.now in
    rw c.in-Profile.is (c.profile.ensures.told, untouched faults faults (g.W.Shelf.holds c.args.shelf.now))

pub returns-in-Plot-clause-done : goal.returns-in-Plot-clause-done
returns-in-Plot-clause-done g c = rw c.in-Plot.is c.plot.ensures.told

pub returns-in-Lsp-clause-done : goal.returns-in-Lsp-clause-done
returns-in-Lsp-clause-done g c = rw c.in-Lsp.is c.serve_editor.ensures
