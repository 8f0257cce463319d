use Rattle.std.proofs.Common.{◌≡◌, drop}
use Rattle.explain_declared.specs.Places.{behind_sign, behind_sign_from}
use Rattle.explain_declared.proofs.place.behind_sign.Given as goal

abbrev pub invariant-loop-at : goal.invariant-loop-at
invariant-loop-at l = behind_sign_from l.at (drop l.at l.line) ≡ behind_sign l.line
