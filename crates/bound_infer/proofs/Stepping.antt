-- One step by what a task came to.
use Rattle.std.proofs.Common.{◌≡◌, ℕ, ℤ, List, Option, Some, None, Result, Ok, Err, OnOk, IfOk, sym, ◌∙◌}
use Rattle.cost_free.specs.Task.{Task}
use Rattle.annot_types.specs.Certificate.{Refuted}
use Rattle.infer_spec.specs.States.{State, with_block}
use Rattle.infer_spec.specs.Generator.{Analysis, Generates, blocker_at, system_at}
use Rattle.infer_spec.specs.Listed.{listed}
use Rattle.infer_spec.specs.Places.{rule_of, RescaleLeaves}
use Rattle.infer_spec.specs.Courses.{Waits, Has, HasNone, after}
use Rattle.infer_spec.specs.Clear.{RowsAreFine, FineIsClear, SeenIsFirst}
use Rattle.infer_spec.specs.Laws.{ScalesBegin}
use Rattle.infer_spec.proofs.Running.{runs, stands_of}
use Rattle.share_normal.specs.Program.{Kept}
use Rattle.simplex_checked.specs.Answers.{IsSolution, IsVector}
use Rattle.bound_infer.specs.Keeping.{analysis_in, StandsAt, Begins}
use Rattle.bound_infer.specs.After.{OneMore, IsAtHand, Reached, StopsOn}
use Rattle.bound_infer.specs.Found.{RaiseCause}
use Rattle.bound_infer.specs.declared.leaves.LeavesAt.TheVariants.{Solve, Row, Scale, Rescale, Check, Refute, Least}
use Rattle.bound_infer.specs.declared.refusal.InferFault.{InferFault}
use Rattle.bound_infer.specs.declared.refusal.InferFault.TheVariants as i

pub on_ok_both : {X E : Type 0} (r : Result X E) (A B C : Type 0) → (A → B → C) → OnOk r A → OnOk r B → OnOk r C
on_ok_both (Ok x) A B C f a b = f a b
on_ok_both (Err e) A B C f a b = tt

pub if_ok_both : {X E : Type 0} (r : Result X E) (A : X → Type 0) (B : Type 0) (C : X → Type 0) → ((x : X) → A x → B → C x) → IfOk r A → OnOk r B → IfOk r C
if_ok_both (Ok x) A B C f a b = f x a b
if_ok_both (Err e) A B C f a b = tt

pub on_ok_three : {X E : Type 0} (r : Result X E) (A B : Type 0) (C : X → Type 0) (D : Type 0) → (A → B → (x : X) → C x → D) → OnOk r A → OnOk r B → IfOk r C → OnOk r D
on_ok_three (Ok x) A B C D f a b c = f a b x c
on_ok_three (Err e) A B C D f a b c = tt

module _ (A : Analysis) (st new : State) (task : Task) (h : IsAtHand A st task) where
  pub waits_step : (fun : ℕ) → blocker_at A st task ≡ Some fun → new ≡ after A task (Waits fun) st → OneMore A st new
  waits_step fun w e = (
    Waits fun,
    record {
      task = task;
      is_next = h.is_next;
      goes_on = h.goes_on;
      clear = λ n. (let wrong = sym w ∙ n in absurd (cc));
      comes = w;
      is = e;
    },
  )

  module _ (clear : FineIsClear) (tried : blocker_at A st task ≡ None) (fine : RowsAreFine A st task) where
    pub solved_step : (t : ℕ) (x : List ℕ) → IsSolution (rule_of A) (system_at A st task) t x → ((place : ℕ) → RescaleLeaves task.kind t st place → ⊥) →
        new ≡ after A task (Has t x) st → OneMore A st new
    solved_step t x s fit e = (
      Has t x,
      record {
        task = task;
        is_next = h.is_next;
        goes_on = h.goes_on;
        clear = clear.solved A st task t x fine (record { solution = s.solution; over = s.over; primal = s.primal; dual = s.dual; fine = s.fine; passed = s.passed; raises = fit });
        comes = (tried, s.solution);
        is = e;
      },
    )

    pub refuted_step : (y : List ℕ) → IsVector (rule_of A) (system_at A st task) y → new ≡ with_block task (Refuted (listed 0 y)) st → OneMore A st new
    refuted_step y v e = (
      HasNone y,
      record {
        task = task;
        is_next = h.is_next;
        goes_on = h.goes_on;
        clear = clear.refuted A st task y fine v.fine v.passed;
        comes = (tried, (let f = v.fine in f.vector));
        is = e;
      },
    )

-- where what is raised leaves
pub raise_stops : (A : Analysis) (st : State) (task : Task) → SeenIsFirst → blocker_at A st task ≡ None → RowsAreFine A st task → (t : ℕ) (x : List ℕ) → IsSolution (rule_of A) (system_at A st task) t x →
    (fault : InferFault) → RaiseCause task t st fault → StopsOn A st task fault
raise_stops A st task seen tried fine t x s (i.Leaves (Rescale told block)) h =
    (h.0, (let first = seen A st task tried in first.rescale fine s.over s.primal s.dual s.fine s.passed t x s.solution block h.1))
raise_stops A st task seen tried fine t x s (i.Leaves (Solve told pivots row col)) h = absurd h
raise_stops A st task seen tried fine t x s (i.Leaves (Row told row)) h = absurd h
raise_stops A st task seen tried fine t x s (i.Leaves (Scale told entry)) h = absurd h
raise_stops A st task seen tried fine t x s (i.Leaves (Check block path index)) h = absurd h
raise_stops A st task seen tried fine t x s (i.Leaves (Refute told column)) h = absurd h
raise_stops A st task seen tried fine t x s (i.Leaves (Least told column)) h = absurd h
raise_stops A st task seen tried fine t x s (i.TooLarge told what) h = absurd h
raise_stops A st task seen tried fine t x s i.NoMemory h = tt

-- a task that is tried stands in a run, by whatever rule
pub stands_at : (kept : Kept) (d : ℕ) (pick : List ℤ → ℤ → Option ℕ) → Generates (analysis_in kept d pick) → (st : State) (task : Task) → IsAtHand (analysis_in kept d pick) st task →
    blocker_at (analysis_in kept d pick) st task ≡ None → StandsAt kept d st task
stands_at kept d pick g st task h tried other =
    let r = h.reached in
    let s = stands_of (analysis_in kept d pick) st (runs (analysis_in kept d pick) g r.findings st r.course) task h.is_next tried in
    record { positive = s.positive; hold = s.hold; next = s.next; tried = s.tried }

pub begins : ScalesBegin → (A : Analysis) (st : State) → Reached A st → Begins st
begins law A st r = law A r.findings st r.course
