use Rattle.std.proofs.Common.{◌≡◌, ◌+◌, ◌*◌, ◌∙◌, ap, sym, map, drop, arith}
use Rattle.rules_spec.specs.Growth.{span, spans}
use Rattle.rules_walk.specs.Steps.{step_of}
use Rattle.rules_walk.proofs.Arms.{drop_at}
use Rattle.rules_walk.proofs.growing.spans.Goals as goal

pub loop-step-preserved : goal.loop-step-preserved
loop-step-preserved c =
    let rest = spans (map step_of (drop (c.loop-step.step-index + 1) c.args.steps.now)) in
    let front : spans (map step_of (drop c.loop-step.step-index c.args.steps.now)) ≡ rest * span c.step-item.result.entries.items =
    ap spans (drop_at step_of c.args.steps.now c.loop-step.step-index c.step-item.result c.loop-step-test.true) ∙ ap (λ x. rest * span x.entries.items) (sym c.step-item.is) in
    let all = c.loop-step.all in let next = span c.step-item.result.entries.items in
    let each : c.in_ok-span.field-0 ≡ next = c.in_ok-span.ensures ∙ ap span c.deref.ensures.value in
    let swap : rest * (all * next) ≡ rest * next * all = grind arith in
    ap (λ z. rest * z) (c.in_ok-all.ensures.1 ∙ ap (λ z. all * z) each) ∙ swap ∙ ap (λ z. z * all) (sym front) ∙ c.loop-step.invariant
