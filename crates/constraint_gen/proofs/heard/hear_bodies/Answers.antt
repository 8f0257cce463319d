use Rattle.std.proofs.Common.{◌≡◌, ◌<◌, ◌+◌, ◌∙◌, ap, map, drop, length, arith}
use Rattle.std.proofs.lemmas.Bool.Decides.{nat_tests}
use Rattle.rules_walk.specs.Place.{body_walked}
use Rattle.rules_walk.specs.Read.{hints_of, known_of}
use Rattle.rules_walk.specs.Read as w
use Rattle.rules_plan.specs.Read.{body_of}
use Rattle.constraint_gen.specs.Sums.{sums}
use Rattle.constraint_gen.specs.Heard.{hear_all}
use Rattle.constraint_gen.proofs.Functions.{cut_is}
use Rattle.constraint_gen.proofs.Walking.{bodies_go_on}
use Rattle.constraint_gen.proofs.heard.hear_bodies.Goals as goal

pub loop-place-preserved : goal.loop-place-preserved
loop-place-preserved c =
    let p = c.loop-place.place in
    let b = c.index-bodies-place.result in
    let hs = c.index-hints-place.result in
    let low : p < length c.args.bodies.now = grind (arith, nat_tests, c.loop-place-test.true) in
    let low_hints : p < length c.args.hints.now = grind (arith, low, c.requires) in
    let bodies = ap (map body_of) (cut_is c.args.bodies.now p b low c.index-bodies-place.is) in
    let hints = ap (map (λ h. hints_of h.items)) (cut_is c.args.hints.now p hs low_hints c.index-hints-place.is) in
    let one : c.walk.new.judge ≡ hear_all c.loop-place.collector (body_walked sums (known_of c.args.known.now) (body_of b).plan (w.mode_of c.args.mode) p (hints_of hs.items)).found =
    c.in_ok-walk.ensures.heard
    ∙ (λ i. hear_all c.loop-place.collector (body_walked sums (known_of c.args.known.now) (body_of b).plan (w.mode_of c.args.mode) p (hints_of (c.deref.ensures.value i))).found) in
    bodies_go_on (known_of c.args.known.now) (w.mode_of c.args.mode) p (body_of b) (map body_of (drop (p + 1) c.args.bodies.now)) _ (hints_of hs.items) (map (λ h. hints_of h.items) (drop (p + 1) c.args.hints.now)) _ c.loop-place.collector c.walk.new.judge _ bodies hints one c.loop-place.invariant
