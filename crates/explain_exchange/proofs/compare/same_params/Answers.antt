use Rattle.std.proofs.Common.{◌∙◌, refl, sym, arith}
use Rattle.explain_exchange.proofs.Alike.{kept, here, parameters_here, parameters_count, parameters_end}
use Rattle.explain_exchange.proofs.compare.same_params.Goals as goal

pub returns-then-params-others : goal.returns-then-params-others
returns-then-params-others c = (
  (λ e. absurd (cc)),
  (λ w. absurd (c.if-params-others.true (parameters_count c.args.first c.args.second c.args.params.now c.args.others.now w))),
)

pub returns-then-not-same_param : goal.returns-then-not-same_param
returns-then-not-same_param c =
    let step = parameters_here c.args.first c.args.second c.args.params.now c.args.others.now c.loop-place.place c.place_before.result
    c.index-params-place_before.result c.index-others-place.result c.if-params-others.false c.loop-place-test.true
    c.place_before.ensures.before c.place_before.ensures.within c.index-params-place_before.is c.index-others-place.is in (
      (λ e. absurd (cc)),
      (λ w. sym c.if-not-same_param.true ∙ c.same_param.ensures.1 (here step c.loop-place.invariant w)),
    )

pub loop-place-preserved : goal.loop-place-preserved
loop-place-preserved c =
    let step = parameters_here c.args.first c.args.second c.args.params.now c.args.others.now c.loop-place.place c.place_before.result
    c.index-params-place_before.result c.index-others-place.result c.if-params-others.false c.loop-place-test.true
    c.place_before.ensures.before c.place_before.ensures.within c.index-params-place_before.is c.index-others-place.is in
    kept step c.loop-place.invariant (c.same_param.ensures.0 c.if-not-same_param.false)

pub returns : goal.returns
returns c = (
  (λ e. c.loop-place.invariant.0
      (parameters_end c.args.first c.args.second c.args.params.now c.args.others.now c.loop-place.place c.if-params-others.false (omega (arith, c.loop-place-test.false)))),
  (λ w. refl),
)
