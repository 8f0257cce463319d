use Rattle.std.proofs.Common.{◌≡◌, drop}
use Rattle.rules_spec.specs.Walk.{brought, numbers}
use Rattle.rules_walk.proofs.entries.bring_numbers.Given as goal

abbrev pub invariant-loop-entry : goal.invariant-loop-entry
invariant-loop-entry g l = brought g.T.Kind.kind l.out.items (drop l.entry-index l.map) (numbers g.T.Kind.kind l.from) ≡ brought g.T.Kind.kind l.fn.out.items l.map (numbers g.T.Kind.kind l.from)
