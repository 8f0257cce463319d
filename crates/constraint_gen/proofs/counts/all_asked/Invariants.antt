use Rattle.std.proofs.Common.{◌≡◌, ◌++◌, drop, map}
use Rattle.rules_spec.specs.Asked.{asked}
use Rattle.rules_spec.specs.Tasks as t
use Rattle.rules_walk.specs.Asks.{asks_of}
use Rattle.rules_plan.specs.Read.{body_of}
use Rattle.constraint_gen.proofs.counts.all_asked.Given as goal

abbrev pub invariant-loop-body : goal.invariant-loop-body
invariant-loop-body l =
    map (λ a. asks_of a.items) l.asks.items ++ map (λ (b : t.Body). asked b.plan) (map body_of (drop l.body-index l.bodies)) ≡ map (λ (b : t.Body). asked b.plan) (map body_of l.bodies)
