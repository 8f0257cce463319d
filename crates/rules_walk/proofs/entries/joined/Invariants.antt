use Rattle.std.proofs.Common.{◌≡◌, drop, map}
use Rattle.rules_spec.specs.Walk.{nothing, joined}
use Rattle.rules_walk.specs.Steps.{part_of}
use Rattle.rules_walk.proofs.entries.joined.Given as goal

abbrev pub invariant-loop-number : goal.invariant-loop-number
invariant-loop-number g l =
    joined g.T.Kind.kind l.out.items l.number (map part_of (drop l.number l.parts)) (map (λ v. v.items) l.results)
    ≡ joined g.T.Kind.kind (nothing g.T.Kind.kind l.size) 0 (map part_of l.parts) (map (λ v. v.items) l.results)
