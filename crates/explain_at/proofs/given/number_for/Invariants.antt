use Rattle.std.proofs.Common.{◌≡◌, drop}
use Rattle.explain_at.specs.Words.{given_for}
use Rattle.explain_at.specs.Read.{all_given}
use Rattle.explain_at.proofs.given.number_for.Given as goal

abbrev pub invariant-loop-one : goal.invariant-loop-one
invariant-loop-one l = given_for l.name (all_given (drop l.one-index l.given)) ≡ given_for l.name (all_given l.given)
