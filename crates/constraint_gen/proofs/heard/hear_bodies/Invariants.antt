use Rattle.std.proofs.Common.{◌≡◌, drop, map}
use Rattle.rules_walk.specs.Read.{hints_of, known_of}
use Rattle.rules_walk.specs.Read as w
use Rattle.rules_plan.specs.Read.{body_of}
use Rattle.constraint_gen.specs.Heard.{hear_all}
use Rattle.constraint_gen.specs.Walked.{bodies_walked}
use Rattle.constraint_gen.proofs.heard.hear_bodies.Given as goal

abbrev pub invariant-loop-place : goal.invariant-loop-place
invariant-loop-place l =
    hear_all l.collector (bodies_walked (known_of l.known) (w.mode_of l.mode) l.place (map body_of (drop l.place l.bodies)) (map (λ h. hints_of h.items) (drop l.place l.hints)))
    ≡ hear_all l.fn.collector (bodies_walked (known_of l.known) (w.mode_of l.mode) 0 (map body_of l.bodies) (map (λ h. hints_of h.items) l.hints))
