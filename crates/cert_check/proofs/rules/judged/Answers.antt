use Rattle.std.proofs.Common.{◌≡◌, ◌<◌, ◌+◌, ap, ◌∙◌, arith, rules, length, map, slice_index_or}
use Rattle.annot_types.specs.Read as a
use Rattle.rules_spec.specs.Capped.{capped, capped_amount}
use Rattle.rules_spec.specs.Carried.{hint_to}
use Rattle.rules_spec.specs.Shape.{hints_at}
use Rattle.rules_walk.specs.Asks.{asks_of}
use Rattle.rules_walk.specs.Read.{known_of, mode_of}
use Rattle.rules_plan.specs.Read.{body_of}
use Rattle.rules_walk.specs.Place.{body_walked}
use Rattle.cert_check.specs.Judged.{verdict_of, after}
use Rattle.cert_check.proofs.Hearing.{heard_from, next_heard}
use Rattle.cert_check.proofs.rules.judged.Goals as goal

pub loop-place-preserved : goal.loop-place-preserved
loop-place-preserved c =
    let G = known_of c.args.known.now in
    let mode = mode_of c.args.mode in
    let k = c.loop-place.place in
    let low = c.loop-place-test.true in
    let asked : k < length c.args.asks.now = omega (arith, low, c.requires.asked) in
    let told : k < length c.args.hints.now = omega (arith, low, c.requires.told) in
    let body = slice_index_or c.args.bodies.now k c.index-bodies-place.result in
    let asks = (slice_index_or c.args.asks.now k c.index-asks-place.result).items in
    let hints = (slice_index_or c.args.hints.now k c.index-hints-place.result).items in
    let body_is : c.index-bodies-place.result ≡ body = c.index-bodies-place.is in
    let asks_is : c.deref.result.now ≡ asks = search rules in
    let hints_is : c.deref-in-loop-place.result.now ≡ hints = search rules in
    let heard : verdict_of c.judge_body.new.judge ≡ after (verdict_of c.loop-place.judge)
    (body_walked capped G (body_of body).plan mode k (map (hint_to capped_amount) (hints_at (asks_of asks) (map a.hint_of hints)))).found =
    c.in_ok-judge_body.ensures
    ∙ (λ i. after (verdict_of c.loop-place.judge) (body_walked capped G (body_of (body_is i)).plan mode k
    (map (hint_to capped_amount) (hints_at (asks_of (asks_is i)) (map a.hint_of (hints_is i))))).found) in
    ap (heard_from G mode c.args.bodies.now c.args.asks.now c.args.hints.now (k + 1)) heard
    ∙ next_heard G mode c.args.bodies.now c.args.asks.now c.args.hints.now k (verdict_of c.loop-place.judge) c.index-bodies-place.result
    c.index-asks-place.result c.index-hints-place.result low asked told
    ∙ c.loop-place.invariant
