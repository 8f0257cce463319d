use Rattle.std.proofs.Common.{◌+◌, ◌∙◌, ap, subst}
use Rattle.rules_plan.specs.Read.{program_in}
use Rattle.infer_spec.specs.Courses.{IsOver}
use Rattle.infer_spec.specs.Good.{AllLeast}
use Rattle.bound_infer.specs.After.{Reached}
use Rattle.bound_infer.specs.Inferred.{IsInferred, InferCause}
use Rattle.bound_infer.specs.Keeping.{state_of, analysis_in, ByEach}
use Rattle.bound_infer.specs.declared.progress.Progress.TheVariants.{Advanced, Ended, Cut}
use Rattle.bound_infer.proofs.Analysing.{still, said, said_of_it, steps_on}
use Rattle.bound_infer.proofs.Budgets.{none_used, all_left, used_more, left_more, at_start, one_task_more, ends_within, given_up}
use Rattle.bound_infer.proofs.Leading.{fewer, err_is}
use Rattle.bound_infer.specs.Pivots.{left}
use Rattle.bound_infer.proofs.inference.infer_within.Goals as goal

pub loop-inference-init : goal.loop-inference-init
loop-inference-init g c = (
  c.in-Ok.ensures.analysis,
  c.in-Ok.ensures.course,
  0,
  none_used c.args.budget,
  all_left c.args.budget,
  λ pick by. at_start (analysis_in c.args.program.now c.args.d pick) (state_of c.in-Ok.inference.run) c.in-Ok.ensures.start,
)

pub step-requires-clause-callable : goal.step-requires-clause-callable
step-requires-clause-callable g c = let is = c.loop-inference.invariant.0 in rw is.rule_is c.requires.callable

pub left-rest-requires : goal.left-rest-requires
left-rest-requires g c =
    let course = c.loop-inference.invariant.1 in
    let one = course.answers in
    let steps = rw c.in-Advanced.is at c.in_ok-pivots.ensures.steps in
    (steps one.pick one.answers).2

pub loop-inference-preserved : goal.loop-inference-preserved
loop-inference-preserved g c =
    let inv = c.loop-inference.invariant in
    let one = c.requires.answers in
    let st = state_of c.loop-inference.inference.run in
    let new = state_of c.step.new.self.run in
    let n = c.in-Advanced.pivots in
    let after = steps_on c.args.program.now c.args.d c.args.chooser.now c.loop-inference.inference inv.0 g.F.Fn c.loop-inference.rest c.args.budget inv.2 inv.4 st new (Advanced n) (rw c.in-Advanced.is at c.in_ok-pivots.ensures.steps) in (
      still c.args.program.now c.args.d c.args.chooser.now c.loop-inference.inference inv.0 c.step.new.self c.step.ensures.same,
      c.in_ok-pivots.ensures.course,
      inv.2 + n,
      used_more c.args.budget inv.2 n inv.3 (after one.pick one.answers).2,
      c.left-rest.ensures ∙ ap (λ r. left r n) inv.4 ∙ left_more c.args.budget inv.2 n,
      λ pick by. one_task_more (analysis_in c.args.program.now c.args.d pick) c.args.budget st new inv.2 (inv.5 pick by) n (after pick by),
    )

pub loop-inference-smaller : goal.loop-inference-smaller
loop-inference-smaller g c =
    let inv = c.loop-inference.invariant in
    let one = c.requires.answers in
    let st = state_of c.loop-inference.inference.run in
    let new = state_of c.step.new.self.run in
    let after = steps_on c.args.program.now c.args.d c.args.chooser.now c.loop-inference.inference inv.0 g.F.Fn c.loop-inference.rest c.args.budget inv.2 inv.4 st new (Advanced c.in-Advanced.pivots) (rw c.in-Advanced.is at c.in_ok-pivots.ensures.steps) in
    let reached = said c.args.program.now c.args.d c.args.chooser.now c.loop-inference.inference inv.0 (λ p d r. ByEach g.F.Fn r (λ pick. Reached (analysis_in p d pick) st)) (let course = inv.1 in course.reached) in
    fewer (analysis_in c.args.program.now c.args.d one.pick) st new (reached one.pick one.answers) (after one.pick one.answers).0

pub step-requires-clause-course : goal.step-requires-clause-course
step-requires-clause-course g c = c.loop-inference.invariant.1

pub returns-in_err-pivots-clause-fault : goal.returns-in_err-pivots-clause-fault
returns-in_err-pivots-clause-fault g c = err_is c.from_residual.result c.in_err-pivots.field-0.0 _ c.from_residual.ensures.1
    (said c.args.program.now c.args.d c.args.chooser.now c.loop-inference.inference c.loop-inference.invariant.0
    (λ p d r. ByEach g.F.Fn r (λ pick. InferCause (analysis_in p d pick) c.in_err-pivots.field-0.0)) c.in_err-pivots.ensures.fault)

pub finish-requires-clause-over : goal.finish-requires-clause-over
finish-requires-clause-over g c =
    let old = c.loop-inference.inference in
    let new = c.step.new.self in
    let steps = rw c.in-Ended.is at c.in_ok-pivots.ensures.steps in
    said_of_it old.program.now old.degree old.chooser.now new c.step.ensures.same
    (λ p d r. ByEach g.F.Fn r (λ pick. IsOver (analysis_in p d pick) (state_of new.run))) (λ pick by. (steps pick by).0)

pub returns-in_err-finish-in-Ended-clause-fault : goal.returns-in_err-finish-in-Ended-clause-fault
returns-in_err-finish-in-Ended-clause-fault g c =
    let new = c.step.new.self in
    let is = still c.args.program.now c.args.d c.args.chooser.now c.loop-inference.inference c.loop-inference.invariant.0 new c.step.ensures.same in
    err_is c.from_residual-in_err-finish-in-Ended.result c.in_err-finish-in-Ended.field-0.0 _ c.from_residual-in_err-finish-in-Ended.ensures.1
    (said c.args.program.now c.args.d c.args.chooser.now new is
    (λ p d r. ByEach g.F.Fn r (λ pick. InferCause (analysis_in p d pick) c.in_err-finish-in-Ended.field-0.0)) c.in_err-finish-in-Ended.ensures.fault)

pub returns-in-Ended-clause-program : goal.returns-in-Ended-clause-program
returns-in-Ended-clause-program g c =
    let is = still c.args.program.now c.args.d c.args.chooser.now c.loop-inference.inference c.loop-inference.invariant.0 c.step.new.self c.step.ensures.same in
    c.in_ok-finish-in-Ended.ensures.program ∙ is.program_is

pub returns-in-Ended-clause-course : goal.returns-in-Ended-clause-course
returns-in-Ended-clause-course g c =
    let new = c.step.new.self in
    let is = still c.args.program.now c.args.d c.args.chooser.now c.loop-inference.inference c.loop-inference.invariant.0 new c.step.ensures.same in
    said c.args.program.now c.args.d c.args.chooser.now new is
    (λ p d r. ByEach g.F.Fn r (λ pick. IsInferred (analysis_in p d pick) c.in_ok-finish-in-Ended.field-0.certificate)) c.in_ok-finish-in-Ended.ensures.course

pub returns-in-Ended-clause-least : goal.returns-in-Ended-clause-least
returns-in-Ended-clause-least g c =
    let is = still c.args.program.now c.args.d c.args.chooser.now c.loop-inference.inference c.loop-inference.invariant.0 c.step.new.self c.step.ensures.same in
    subst (λ p. AllLeast (program_in p) c.in_ok-finish-in-Ended.field-0.certificate) is.program_is c.in_ok-finish-in-Ended.ensures.least

pub returns-in-Ended-clause-enough : goal.returns-in-Ended-clause-enough
returns-in-Ended-clause-enough g c = λ pick by.
    let inv = c.loop-inference.invariant in
    let st = state_of c.loop-inference.inference.run in
    let new = state_of c.step.new.self.run in
    let after = steps_on c.args.program.now c.args.d c.args.chooser.now c.loop-inference.inference inv.0 g.F.Fn c.loop-inference.rest c.args.budget inv.2 inv.4 st new Ended (rw c.in-Ended.is at c.in_ok-pivots.ensures.steps) in
    ends_within (analysis_in c.args.program.now c.args.d pick) c.args.budget st new inv.2 (inv.5 pick by) inv.3 (after pick by)

pub returns-in-Cut-clause-given_up : goal.returns-in-Cut-clause-given_up
returns-in-Cut-clause-given_up g c = λ pick by.
    let inv = c.loop-inference.invariant in
    let st = state_of c.loop-inference.inference.run in
    let new = state_of c.step.new.self.run in
    let after = steps_on c.args.program.now c.args.d c.args.chooser.now c.loop-inference.inference inv.0 g.F.Fn c.loop-inference.rest c.args.budget inv.2 inv.4 st new Cut (rw c.in-Cut.is at c.in_ok-pivots.ensures.steps) in
    given_up (analysis_in c.args.program.now c.args.d pick) c.args.budget st new inv.2 (inv.5 pick by) inv.3 (after pick by)
