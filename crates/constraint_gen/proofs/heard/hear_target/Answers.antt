use Rattle.std.proofs.Common.{◌≡◌, ◌<◌, ◌+◌, ◌∷◌, ◌∙◌, [], ap, sym, drop, length, slice_index_or, rules, arith}
use Rattle.std.proofs.lemmas.Bool.Decides.{nat_tests}
use Rattle.rules_spec.specs.Walk.{at}
use Rattle.constraint_gen.specs.Sums.{sums}
use Rattle.constraint_gen.specs.Heard.{hear, hear_all}
use Rattle.constraint_gen.specs.Walked.{reached}
use Rattle.constraint_gen.proofs.Functions.{cut_at}
use Rattle.constraint_gen.proofs.heard.hear_target.Goals as goal

pub loop-position-preserved : goal.loop-position-preserved
loop-position-preserved c function =
    let ps = c.args.positions.now in
    let i = c.loop-position.position-index in
    let p = slice_index_or ps i 0 in
    let r = c.args.result_of.now in
    let in_range : i < length ps = grind (arith, nat_tests, c.loop-position-test.true) in
    let left : c.unwrap_or.result.now ≡ at sums r p = search rules in
    let right : c.number-one.result ≡ sums.number 1 = search rules in
    let one : c.take.new.self ≡ hear c.loop-position.collector (record { path = function ∷ []; index = p; left = at sums r p; right = sums.number 1 }) =
    c.in_ok-take.ensures ∙ (λ j. hear c.loop-position.collector (record { path = function ∷ []; index = p; left = left j; right = right j })) in
    (λ j. hear_all (one j) (reached function r (drop (i + 1) ps)))
    ∙ sym (ap (λ l. hear_all c.loop-position.collector (reached function r l)) (cut_at ps i 0 in_range))
    ∙ c.loop-position.invariant function
