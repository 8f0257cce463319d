-- Steps lead on.
use Rattle.std.proofs.Common.{◌≡◌, ◌<◌, ◌-◌, inl, ℕ, suc, refl, [], ◌∷◌, length, Option, Some, None, Result, Ok, Err, sym, ap, ◌∙◌, subst, arith}
use Rattle.std.specs.Prelude.{IfErr, IsErrAnd}
use Rattle.cost_free.specs.Task.{Task}
use Rattle.cost_free.specs.Read.{task_of}
use Rattle.cost_free.specs.Schedule.{tasks_from}
use Rattle.annot_types.specs.Program.{results}
use Rattle.infer_spec.specs.States.{State, start}
use Rattle.infer_spec.specs.Generator.{Analysis}
use Rattle.infer_spec.specs.Places as p
use Rattle.infer_spec.specs.Places.{Place}
use Rattle.annot_types.specs.Certificate.{Certificate}
use Rattle.infer_spec.specs.Courses.{IsOver, OnTask, EndsAt}
use Rattle.infer_spec.proofs.Short.{courses_end, one_block}
use Rattle.bound_infer.specs.Told.{told_of, what_of}
use Rattle.bound_infer.specs.After.{OneMore, IsAfter, Reached, IsAtHand, Ends, ComesTo, IsPlaceOf, StopsOn, StopsThere, StopsIn}
use Rattle.bound_infer.specs.Found.{CheckCause}
use Rattle.bound_infer.specs.Inferred.{InferCause}
use Rattle.bound_infer.specs.declared.leaves.LeavesAt.{LeavesAt}
use Rattle.bound_infer.specs.declared.leaves.LeavesAt.TheVariants.{Solve, Row, Scale, Rescale, Check, Refute, Least}
use Rattle.bound_infer.specs.declared.progress.Progress.{Progress}
use Rattle.bound_infer.specs.declared.progress.Progress.TheVariants.{Advanced, Ended, Cut}
use Rattle.bound_infer.specs.declared.refusal.InferFault.{InferFault}
use Rattle.bound_infer.specs.declared.refusal.InferFault.TheVariants as i

-- how many tasks may be tried
abbrev pub all_tasks : Analysis → ℕ
all_tasks A = length (tasks_from (results A.program) A.degree A.work 0 A.program.groups)

pub first : (A : Analysis) (st : State) → st ≡ start → Reached A st
first A st e = record { findings = []; course = e }

pub on : (A : Analysis) (old new : State) → Reached A old → OneMore A old new → Reached A new
on A old new h k = record { findings = k.0 ∷ h.findings; course = (old, h.course, k.1) }

pub fewer : (A : Analysis) (old new : State) → Reached A old → OneMore A old new → all_tasks A - length new.blocks < all_tasks A - length old.blocks
fewer A old new h k =
    let r = on A old new h k in
    let low = courses_end A r.findings new r.course in
    let more : length new.blocks ≡ suc (length old.blocks) = ap (λ v. length v.blocks) (let step = k.1 in step.is) ∙ one_block A (let step = k.1 in step.task) k.0 old in
    omega (arith, low, more)

-- whatever a step comes to
pub goes : (A : Analysis) (most : Option ℕ) (old new : State) (progress : Progress) → Reached A old → IsAfter A most old new progress → Reached A new
goes A most old new (Advanced pivots) h k = on A old new h k.0
goes A most old new Ended h k = subst (Reached A) (sym k.1) h
goes A most old new Cut h k = subst (Reached A) (sym k.1) h

pub ended : (A : Analysis) (st : State) → Reached A st → IsOver A st → Ends A st
ended A st h over = record { findings = h.findings; state = st; course = h.course; over = over; is = refl }

comes : (A : Analysis) (st : State) (told : Task × Place) → Reached A st → StopsThere A st (Some told) → ComesTo A (Some told)
comes A st told h s = (st, record { findings = h.findings; course = h.course; stops = s })

leaves : (A : Analysis) (st : State) (at : LeavesAt) → Reached A st → StopsThere A st (told_of at) → InferCause A (i.Leaves at)
leaves A st (Solve task pivots row col) h s = comes A st _ h s
leaves A st (Row task row) h s = comes A st _ h s
leaves A st (Scale task entry) h s = comes A st _ h s
leaves A st (Rescale task block) h s = comes A st _ h s
leaves A st (Check block path index) h s = absurd s
leaves A st (Refute task column) h s = comes A st _ h s
leaves A st (Least task column) h s = comes A st _ h s

-- the course stops where a step does
pub stopped : (A : Analysis) (st : State) (fault : InferFault) → Reached A st → StopsIn A st fault → InferCause A fault
stopped A st (i.TooLarge task what) h s = comes A st (task_of task, p.TooLarge (what_of what)) h s
stopped A st (i.Leaves at) h s = leaves A st at h s
stopped A st i.NoMemory h s = tt

there : (A : Analysis) (st : State) (task : Task) (told : Option (Task × Place)) → IsAtHand A st task → IsPlaceOf A st task told → StopsThere A st told
there A st task None h s = absurd s
there A st task (Some told) h s = inl (subst (λ t. OnTask A st t told.1) (sym s.0) (record { is_next = h.is_next; goes_on = h.goes_on; place = s.1 }))

-- on the task at hand
pub stops_on : (A : Analysis) (st : State) (task : Task) (fault : InferFault) → IsAtHand A st task → StopsOn A st task fault → StopsIn A st fault
stops_on A st task (i.TooLarge told what) h s = there A st task (Some (task_of told, p.TooLarge (what_of what))) h s
stops_on A st task (i.Leaves at) h s = there A st task (told_of at) h s
stops_on A st task i.NoMemory h s = tt

-- what an error that is passed on says
pub err_is : {X E : Type 0} (r : Result X E) (e : E) (claim : E → Type 0) → IsErrAnd r (λ x. x ≡ e) → claim e → IfErr r claim
err_is (Ok x) e claim h k = tt
err_is (Err x) e claim h k = subst claim (sym h) k

-- a total of the check that leaves
pub check_cause : (A : Analysis) (cert : Certificate) → EndsAt A cert → (fault : InferFault) → CheckCause A.program cert fault → InferCause A fault
check_cause A cert ends (i.Leaves (Check block path index)) h = record { certificate = cert; ends = ends; first = h }
check_cause A cert ends (i.Leaves (Solve task pivots row col)) h = absurd h
check_cause A cert ends (i.Leaves (Row task row)) h = absurd h
check_cause A cert ends (i.Leaves (Scale task entry)) h = absurd h
check_cause A cert ends (i.Leaves (Rescale task block)) h = absurd h
check_cause A cert ends (i.Leaves (Refute task column)) h = absurd h
check_cause A cert ends (i.Leaves (Least task column)) h = absurd h
check_cause A cert ends (i.TooLarge told what) h = absurd h
check_cause A cert ends i.NoMemory h = tt
