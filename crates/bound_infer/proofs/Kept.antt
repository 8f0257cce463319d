-- What is kept along a course.
use Rattle.std.proofs.Common.{◌≡◌, ℕ, ◌*◌, true, false, Bool, cond, List, [], ◌∷◌, ◌++◌, map, take, drop, length, slice_get, Option, Some, None, refl, sym, ap, ◌∙◌, subst, arith}
use Rattle.std.proofs.lemmas.List.{length-map}
use Rattle.cost_free.specs.declared.task.Meter.{Meter}
use Rattle.cost_free.specs.declared.task.Meter.TheVariants.{Ticks, Cells, Work}
use Rattle.cost_free.specs.Task as k
use Rattle.cost_free.specs.Task.{Kind, Free, Task, Outcome, same_meter}
use Rattle.cost_free.specs.Blocked.{is_for_meter}
use Rattle.cost_free.specs.Refused.{Plan, Course, IsRefused, plan_in}
use Rattle.normal_spec.specs.Norm.{NormFun}
use Rattle.share_normal.specs.Program.{Kept}
use Rattle.annot_types.specs.Program.{Program, members, next_task}
use Rattle.annot_types.specs.Certificate as c
use Rattle.annot_types.specs.Certificate.{Body, Solved, Block, Certificate, done_as, outcome}
use Rattle.annot_types.specs.Holds.{times_body, raised, budget_of}
use Rattle.annot_types.proofs.Raised.{on, off}
use Rattle.rules_spec.specs.Jobs.{body_of}
use Rattle.rules_walk.specs.Remembers.{Tables, Remembers}
use Rattle.rules_plan.specs.Read.{program_in}
use Rattle.rules_spec.specs.Told.{bodies_of}
use Rattle.cert_check.specs.At.{sizes_of, sizes_in}
use Rattle.cert_check.specs.Course.{HasCome}
use Rattle.cert_check.specs.Finds.{schedule, next_after}
use Rattle.cert_check.proofs.Going.{types_are, done_is}
use Rattle.infer_spec.specs.States.{State, raised_scales, raise}
use Rattle.annot_types.specs.Held.{IfSolved}
use Rattle.annot_types.specs.Read.{block_of, blocks_of}
use Rattle.annot_types.specs.declared.block.Block.{Block as Given}
use Rattle.bound_infer.specs.declared.scales.Scales.{Scales}
use Rattle.bound_infer.specs.Keeping.{scales_of, first_of}

pub refused_is : (kept : Kept) (count : length kept.results ≡ length kept.functions) (d : ℕ) (blocks : List Block) (course : Course) (t : Tables) → HasCome kept (first_of d) blocks course t →
    IsRefused 2000 (plan_in course) course.done → IsRefused 2000 (schedule (program_in kept) (first_of d)) (map outcome blocks)
refused_is kept count d blocks course t h r =
    let plan_is : plan_in course ≡ schedule (program_in kept) (first_of d) =
    ap plan_in h.course_is ∙ (λ i. record { results = types_are kept count (first_of d) i; groups = kept.groups.list; degree = d; work = true }) in
    subst (λ (x : Plan × List Outcome). IsRefused 2000 x.0 x.1) (λ i. (plan_is i, done_is kept count (first_of d) blocks course t h i)) r

-- Raised blocks came out as before.
done_raised : (r : ℕ) (body : Body) → done_as (times_body r body) ≡ done_as body
done_raised r (Solved sigs hints) = refl
done_raised r (c.Refuted farkas) = refl
done_raised r (c.Calls fun) = refl

outcome_raised : (m : Meter) (r : ℕ) (b : Block) → outcome (raised m r b) ≡ outcome b
outcome_raised m r b = by (is_for_meter m b.task.kind) refl
  where
    by : (is : Bool) → is_for_meter m b.task.kind ≡ is → outcome (raised m r b) ≡ outcome b
    by true e = ap outcome (on m r b e) ∙ (λ i. (b.task, done_raised r b.body i))
    by false e = ap outcome (off m r b e)

pub outcomes_raised : (m : Meter) (r : ℕ) (bs : List Block) → map outcome (map (raised m r) bs) ≡ map outcome bs
outcomes_raised m r [] = refl
outcomes_raised m r (b ∷ bs) = λ i. outcome_raised m r b i ∷ outcomes_raised m r bs i

-- so the schedule stands where it stood
pub still_come : (kept : Kept) (d : ℕ) (m : Meter) (r : ℕ) (bs now : List Block) (course : Course) (old new : Tables) → now ≡ map (raised m r) bs →
    HasCome kept (first_of d) bs course old → (Remembers (program_in kept) d bs old → Remembers (program_in kept) d (map (raised m r) bs) new) → HasCome kept (first_of d) now course new
still_come kept d m r bs now course old new e h risen =
    subst (λ bs. HasCome kept (first_of d) bs course new) (sym e) (record {
      course_is = h.course_is ∙ (λ i. record { results = kept.results; groups = kept.groups.list; degree = d; work = true; done = sym (outcomes_raised m r bs) i });
      remembers = risen h.remembers;
    })

pub still_next : (P : Program) (d : ℕ) (m : Meter) (r : ℕ) (bs now : List Block) (task : Task) → now ≡ map (raised m r) bs → next_after P (first_of d) bs ≡ Some task → next_after P (first_of d) now ≡ Some task
still_next P d m r bs now task e h = ap (next_after P (first_of d)) e ∙ ap (next_task P d true) (outcomes_raised m r bs) ∙ h

-- what was lent as a slice
pub written_back : {X : Type 0} (old new : List X) → length new ≡ length old → take (length old) (new ++ drop (length new) old) ≡ new
written_back [] [] e = refl
written_back [] (x ∷ new) e = absurd (omega (arith, e))
written_back (x ∷ old) [] e = absurd (omega (arith, e))
written_back (x ∷ old) (y ∷ new) e = ap (λ l. y ∷ l) (written_back old new (omega (arith, e)))

-- scales of which one is raised
pub scales_raised : (meter : Meter) (t product : ℕ) (old new : Scales) → product ≡ t * scales_of old meter →
    new.ticks ≡ cond (same_meter meter Ticks) product old.ticks → new.cells ≡ cond (same_meter meter Cells) product old.cells → new.work ≡ cond (same_meter meter Work) product old.work →
    scales_of new ≡ raised_scales (k.With meter) t (scales_of old)
scales_raised Ticks t product old new e ticks cells work = λ i m. at m i
  where
    at : (m : Meter) → scales_of new m ≡ raised_scales (k.With Ticks) t (scales_of old) m
    at Ticks = ticks ∙ e
    at Cells = cells
    at Work = work
scales_raised Cells t product old new e ticks cells work = λ i m. at m i
  where
    at : (m : Meter) → scales_of new m ≡ raised_scales (k.With Cells) t (scales_of old) m
    at Ticks = ticks
    at Cells = cells ∙ e
    at Work = work
scales_raised Work t product old new e ticks cells work = λ i m. at m i
  where
    at : (m : Meter) → scales_of new m ≡ raised_scales (k.With Work) t (scales_of old) m
    at Ticks = ticks
    at Cells = cells
    at Work = work ∙ e

-- the positions of functions do not depend on blocks
size_same : (P : Program) (group : List ℕ) (bs now : List Block) (budget : ℕ) (o : Option NormFun) →
    ◌≡◌ {A = ℕ × ℕ} ((body_of P group bs budget o).args, (body_of P group bs budget o).result) ((body_of P group now budget o).args, (body_of P group now budget o).result)
size_same P group bs now budget None = refl
size_same P group bs now budget (Some g) = refl

pub sizes_same : (P : Program) (d : ℕ) (bs now : List Block) (task : Task) → sizes_of (bodies_of P d bs task) ≡ sizes_in P d now task
sizes_same P d bs now task = each (members P task.group)
  where
    each : (fs : List ℕ) → sizes_of (map (λ f. body_of P (members P task.group) bs (budget_of d task.kind) (slice_get P.funs f)) fs)
        ≡ sizes_of (map (λ f. body_of P (members P task.group) now (budget_of d task.kind) (slice_get P.funs f)) fs)
    each [] = refl
    each (f ∷ fs) = λ i. size_same P (members P task.group) bs now (budget_of d task.kind) (slice_get P.funs f) i ∷ each fs i

pub raised_count : (m : Meter) (t : ℕ) (old new : List Given) → blocks_of new ≡ map (raised m t) (blocks_of old) → length new ≡ length old
raised_count m t old new e = sym (length-map new block_of) ∙ ap length e ∙ length-map (blocks_of old) (raised m t) ∙ length-map old block_of

-- the next task is as before
pub next_kept : (P : Program) (d t : ℕ) (st new : State) (task : Task) → new ≡ raise task.kind t st → next_after P (first_of d) st.blocks ≡ Some task → next_after P (first_of d) new.blocks ≡ Some task
next_kept P d t st new task e h = by task.kind refl
  where
    by : (kind : Kind) → task.kind ≡ kind → next_after P (first_of d) new.blocks ≡ Some task
    by (Free budget fun target) q = ap (λ s. next_after P (first_of d) s.blocks) (e ∙ ap (λ k. raise k t st) q) ∙ h
    by (k.With m) q = still_next P d m t st.blocks new.blocks task (ap (λ s. s.blocks) (e ∙ ap (λ k. raise k t st) q)) h

pub if_solved : (body : Body) (claim : Type 0) → claim → IfSolved body claim
if_solved (Solved sigs hints) claim h = h
if_solved (c.Refuted farkas) claim h = tt
if_solved (c.Calls fun) claim h = tt
