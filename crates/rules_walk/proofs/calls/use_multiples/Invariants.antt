use Rattle.std.proofs.Common.{◌≡◌, drop}
use Rattle.rules_spec.specs.Walk.{used}
use Rattle.rules_walk.specs.Read.{called_of, known_of, sides_of}
use Rattle.rules_walk.proofs.calls.use_multiples.Given as goal

abbrev pub invariant-loop-block : goal.invariant-loop-block
invariant-loop-block g l = used g.T.Kind.kind (known_of l.s) (called_of l.called) (drop l.block-index l.told) (sides_of l.out) ≡ used g.T.Kind.kind (known_of l.s) (called_of l.called) l.told (sides_of l.fn.out)
