use Rattle.std.proofs.Common.{◌≡◌, drop}
use Rattle.explain_at.specs.Asked.{unknown}
use Rattle.explain_at.specs.Read.{all_given, texts}
use Rattle.explain_at.proofs.sizes.check_names.Given as goal

abbrev pub invariant-loop-one : goal.invariant-loop-one
invariant-loop-one l = unknown (texts l.names) (all_given (drop l.one-index l.given)) ≡ unknown (texts l.names) (all_given l.given)
