use Rattle.std.proofs.Common.{rules, ◌≡◌, ◌<◌, ◌≤◌, arith, ℕ, ℤ, pos, ◌<ℤ◌, unsigned_abs, FitsSigned, length, map, sym, ap, ◌∙◌, subst}
use Rattle.std.specs.Int.{w128}
use Rattle.std.proofs.lemmas.Int.{ints, to_z-of_z}
use Rattle.raml_num.specs.Sums.{NoneNegative}
use Rattle.cost_free.specs.Read.{task_of}
use Rattle.rules_spec.specs.Told.{bodies_of}
use Rattle.constraint_gen.specs.Given.{unknowns_of}
use Rattle.infer_spec.specs.Generator.{system_at}
use Rattle.infer_spec.specs.Places.{rule_of}
use Rattle.simplex_checked.specs.Answers.{IsAnswer}
use Rattle.constraint_gen.proofs.Whole.{if_err}
use Rattle.bound_infer.specs.Keeping.{state_of, analysis_in}
use Rattle.bound_infer.proofs.Answering.{solution_back}
use Rattle.bound_infer.proofs.OneEach.{one_each, few, natural}
use Rattle.bound_infer.proofs.Stepping.{on_ok_both, solved_step, refuted_step, raise_stops}
use Rattle.bound_infer.proofs.step.carried.Goals as goal

positive : (t : ℕ) (z : ℤ) → 0 < t → z ≡ pos t → pos 0 <ℤ z
positive t z p e = grind (arith, ints)

pub new-factor-requires : goal.new-factor-requires
new-factor-requires g c =
    let one = c.requires.one in
    let A = analysis_in c.args.program.now c.args.d one.pick in
    let a = c.requires.answer one.pick one.answers in
    let s = subst (IsAnswer (rule_of A) (system_at A (state_of c.args.run.now) (task_of c.args.task.now))) c.in-Solution.is a.is in
    let solution = s.4 in
    let read = solution.solution in
    let fits : FitsSigned w128 c.in-Solution.denominator = search rules in
    rw (to_z-of_z w128 _ fits) (positive s.0 c.in-Solution.denominator read.whole.are.positive s.2)

pub solved-requires-clause-one_each : goal.solved-requires-clause-one_each
solved-requires-clause-one_each g c =
    let one = c.requires.one in
    let A = analysis_in c.args.program.now c.args.d one.pick in
    let st = state_of c.args.run.now in
    let task = task_of c.args.task.now in
    let a = c.requires.answer one.pick one.answers in
    let s = subst (IsAnswer (rule_of A) (system_at A st task)) c.in-Solution.is a.is in
    let solution = s.4 in
    let is = c.tried_are_tasks.ensures A c.requires.ordered st task (c.requires.stands one.pick) in
    subst (λ ns. length ns ≡ unknowns_of (bodies_of A.program A.degree st.blocks task)) (sym (c.deref.ensures.value ∙ s.3)) (one_each A st task a.fine s.0 s.1 solution.solution is)

pub solved-requires-clause-few : goal.solved-requires-clause-few
solved-requires-clause-few g c =
    let one = c.requires.one in
    let A = analysis_in c.args.program.now c.args.d one.pick in
    let st = state_of c.args.run.now in
    let task = task_of c.args.task.now in
    let a = c.requires.answer one.pick one.answers in
    let s = subst (IsAnswer (rule_of A) (system_at A st task)) c.in-Solution.is a.is in
    let solution = s.4 in
    subst (λ ns. length ns ≤ 2000) (sym (c.deref.ensures.value ∙ s.3)) (few A st task a.fine s.0 s.1 solution.solution)

pub solved-requires-clause-natural : goal.solved-requires-clause-natural
solved-requires-clause-natural g c =
    let one = c.requires.one in
    let A = analysis_in c.args.program.now c.args.d one.pick in
    let st = state_of c.args.run.now in
    let task = task_of c.args.task.now in
    let a = c.requires.answer one.pick one.answers in
    let s = subst (IsAnswer (rule_of A) (system_at A st task)) c.in-Solution.is a.is in
    let solution = s.4 in
    subst NoneNegative (sym (c.deref.ensures.value ∙ s.3)) (natural A st task a.fine s.0 s.1 solution.solution)

pub returns-in-Solution-clause-steps : goal.returns-in-Solution-clause-steps
returns-in-Solution-clause-steps g c = on_ok_both c.solved.result _ _ _
    (λ state fit pick by.
    let A = analysis_in c.args.program.now c.args.d pick in
    let st = state_of c.args.run.now in
    let task = task_of c.args.task.now in
    let a = c.requires.answer pick by in
    let stands = c.requires.stands pick in
    let s = subst (IsAnswer (rule_of A) (system_at A st task)) c.in-Solution.is a.is in
    let numbers = c.deref.ensures.value ∙ s.3 in
    let fits : FitsSigned w128 c.in-Solution.denominator = search rules in
    let factor = (simp (to_z-of_z w128 _ fits) at c.new-factor.ensures) ∙ ap unsigned_abs s.2 in
    solved_step A st (state_of c.solved.new.run) task (c.requires.here pick by) c.fine_is_clear.ensures stands.tried a.fine c.new-factor.result (map unsigned_abs c.deref.result.now)
    (solution_back (rule_of A) (system_at A st task) c.new-factor.result s.0 c.deref.result.now s.1 factor numbers s.4) fit (state pick))
    c.solved.ensures.state c.solved.ensures.fit

pub returns-in-Solution-clause-stops : goal.returns-in-Solution-clause-stops
returns-in-Solution-clause-stops g c = if_err c.solved.result _ _
    (λ fault h pick by.
    let A = analysis_in c.args.program.now c.args.d pick in
    let st = state_of c.args.run.now in
    let task = task_of c.args.task.now in
    let a = c.requires.answer pick by in
    let stands = c.requires.stands pick in
    let s = subst (IsAnswer (rule_of A) (system_at A st task)) c.in-Solution.is a.is in
    let numbers = c.deref.ensures.value ∙ s.3 in
    let fits : FitsSigned w128 c.in-Solution.denominator = search rules in
    let factor = (simp (to_z-of_z w128 _ fits) at c.new-factor.ensures) ∙ ap unsigned_abs s.2 in
    raise_stops A st task c.seen_is_first.ensures stands.tried a.fine c.new-factor.result (map unsigned_abs c.deref.result.now)
    (solution_back (rule_of A) (system_at A st task) c.new-factor.result s.0 c.deref.result.now s.1 factor numbers s.4) fault h)
    c.solved.ensures.fault

pub returns-in-Ok-clause-steps : goal.returns-in-Ok-clause-steps
returns-in-Ok-clause-steps g c = λ pick by.
    let A = analysis_in c.args.program.now c.args.d pick in
    let st = state_of c.args.run.now in
    let task = task_of c.args.task.now in
    let a = c.requires.answer pick by in
    let stands = c.requires.stands pick in
    let v = subst (IsAnswer (rule_of A) (system_at A st task)) c.in-Vector.is a.is in
    refuted_step A st (state_of c.refuted.new.run) task (c.requires.here pick by) c.fine_is_clear.ensures stands.tried a.fine v.0 v.2 (c.in-Ok.ensures.state v.0 (c.deref-in-Vector.ensures.value ∙ v.1))
