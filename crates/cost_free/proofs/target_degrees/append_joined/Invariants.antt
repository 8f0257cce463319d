use Rattle.std.proofs.Common.{◌≡◌, ◌++◌, map, drop}
use Rattle.base_poly.specs.Plain.{capped}
use Rattle.cost_free.specs.Target.{degree_of}
use Rattle.cost_free.specs.Joining.{joined_of}
use Rattle.cost_free.proofs.target_degrees.append_joined.Given as goal

abbrev pub invariant-loop-one : goal.invariant-loop-one
invariant-loop-one l =
    l.found.items ++ map (λ j. capped (degree_of (joined_of j).target)) (drop l.one-index l.joined) ≡ l.fn.found.items ++ map (λ j. capped (degree_of (joined_of j).target)) l.joined
