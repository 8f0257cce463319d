use Rattle.std.proofs.Common.{◌≡◌, drop}
use Rattle.rules_spec.specs.Walk.{brought}
use Rattle.rules_walk.proofs.entries.bring.Given as goal

abbrev pub invariant-loop-entry : goal.invariant-loop-entry
invariant-loop-entry g l = brought g.T.Kind.kind l.out.items (drop l.entry-index l.map) l.from ≡ brought g.T.Kind.kind l.fn.out.items l.map l.from
