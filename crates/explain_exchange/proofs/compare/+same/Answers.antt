use Rattle.std.proofs.Common.{◌∙◌, ◌<◌, ◌*◌, refl, sym, arith}
use Rattle.raml_syntax.specs.Read.{term_of}
use Rattle.raml_syntax.specs.Node.{nodes}
use Rattle.explain_exchange.specs.Read.{two_of}
use Rattle.explain_exchange.proofs.Alike.{kept, here, arguments_here, arguments_count, arguments_end, falls}
use Rattle.explain_exchange.proofs.compare.+same.Goals as goal

pub same_all-returns-then-args-others : goal.same_all-returns-then-args-others
same_all-returns-then-args-others t c = (
  (λ e. absurd (cc)),
  (λ w. absurd (c.if-args-others.true (arguments_count (two_of c.args.two) c.args.first c.args.second c.args.args.now c.args.others.now w))),
)

pub same_all-same-requires : goal.same_all-same-requires
same_all-same-requires t c =
    let fewer = falls c.args.args.now _ c.loop-place.place c.place_before.result c.index-args-place_before.result c.if-args-others.false c.loop-place-test.true
    c.place_before.ensures.within c.index-args-place_before.is in
    let down : 4 * nodes (term_of c.index-args-place_before.result) < t = omega (arith, fewer, c.decreases) in
    (down, tt)

pub same_all-returns-then-not-same : goal.same_all-returns-then-not-same
same_all-returns-then-not-same t c =
    let step = arguments_here (two_of c.args.two) c.args.first c.args.second c.args.args.now c.args.others.now c.loop-place.place c.place_before.result
    c.index-args-place_before.result c.index-others-place.result c.if-args-others.false c.loop-place-test.true
    c.place_before.ensures.before c.place_before.ensures.within c.index-args-place_before.is c.index-others-place.is in (
      (λ e. absurd (cc)),
      (λ w. sym c.if-not-same.true ∙ c.same.ensures.1 (here step c.loop-place.invariant w)),
    )

pub same_all-loop-place-preserved : goal.same_all-loop-place-preserved
same_all-loop-place-preserved t c =
    let step = arguments_here (two_of c.args.two) c.args.first c.args.second c.args.args.now c.args.others.now c.loop-place.place c.place_before.result
    c.index-args-place_before.result c.index-others-place.result c.if-args-others.false c.loop-place-test.true
    c.place_before.ensures.before c.place_before.ensures.within c.index-args-place_before.is c.index-others-place.is in
    kept step c.loop-place.invariant (c.same.ensures.0 c.if-not-same.false)

pub same_all-returns : goal.same_all-returns
same_all-returns t c = (
  (λ e. c.loop-place.invariant.0
      (arguments_end (two_of c.args.two) c.args.first c.args.second c.args.args.now c.args.others.now c.loop-place.place c.if-args-others.false (omega (arith, c.loop-place-test.false)))),
  (λ w. refl),
)
