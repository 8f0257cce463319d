use Rattle.std.proofs.Common.{inr, refl}
use Rattle.explain_scopes.specs.Sources.{HasNoNames}
use Rattle.explain_scopes.proofs.rename.renamed_at.Goals as goal

pub returns-in-None : goal.returns-in-None
returns-in-None c =
    let none : HasNoNames c.args.source.now = rw c.in-None.is at c.in_ok-read.ensures in
    inr (none, refl)
