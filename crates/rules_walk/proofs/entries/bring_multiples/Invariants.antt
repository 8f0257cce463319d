use Rattle.std.proofs.Common.{◌≡◌, drop}
use Rattle.rules_spec.specs.Walk.{brought, multiples}
use Rattle.rules_walk.proofs.entries.bring_multiples.Given as goal

abbrev pub invariant-loop-step : goal.invariant-loop-step
invariant-loop-step g l = brought g.T.Kind.kind l.out.items (drop l.step-index l.map) (multiples g.T.Kind.kind l.entry l.from) ≡ brought g.T.Kind.kind l.fn.out.items l.map (multiples g.T.Kind.kind l.entry l.from)
