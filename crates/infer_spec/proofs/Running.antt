-- What is kept along a course.
use Rattle.std.proofs.Common.{◌≡◌, ◌≤◌, ◌<◌, ℕ, suc, ◌*◌, cond, ℤ, pos, ◌*ℤ◌, ◌<ℤ◌, List, [], ◌∷◌, map, take, Bool, true, false, Option, Some, None, refl, sym, ap, ◌∙◌, subst, arith}
use Rattle.std.proofs.lemmas.Int.{ints}
use Rattle.std.proofs.Math.Nat.{le_of_mul-le-mul_left}
use Rattle.cost_free.specs.declared.task.Meter.{Meter}
use Rattle.cost_free.specs.Task as k
use Rattle.cost_free.specs.Task.{Kind, Free, Task, Outcome, same_meter}
use Rattle.cost_free.specs.Blocked.{is_for_meter}
use Rattle.cost_free.specs.Refused.{IsRefused}
use Rattle.annot_types.specs.Program.{Program, next_task, blocker_of}
use Rattle.annot_types.specs.Certificate as c
use Rattle.annot_types.specs.Certificate.{Entries, RiseFrom, Rise, Sig, Hint, Let, Share, Call, Body, Solved, Calls, IsSolved, Block, done_as, outcome}
use Rattle.annot_types.specs.Holds.{times, times_sig, times_hint, times_body, raised, blocks_before}
use Rattle.annot_types.specs.Held.{AllRise, SigsRise, HintRises, HintsRise, AllHintsRise, IsShaped, NamesBlocker, IfSolved}
use Rattle.annot_types.specs.Least.{solving, weight, Least}
use Rattle.annot_types.specs.System.{IsRefutedBy}
use Rattle.annot_types.proofs.Raised.{same_self}
use Rattle.infer_spec.specs.States.{State, scale_at, raised_scales}
use Rattle.infer_spec.specs.Good.{AllAt, HoldsAt, LeastAt, IsRight, IsGood}
use Rattle.infer_spec.specs.Generator.{Analysis, Generates, Stands, What, most_allowed, next_at, plan, IsRefusedAt, blocker_at, limit_at, system_at, body_at}
use Rattle.infer_spec.specs.Listed.{listed}
use Rattle.infer_spec.specs.Places.{TooLarge, rule_of, IsClear}
use Rattle.infer_spec.specs.Courses.{Finding, Waits, Has, HasNone, after, ComesOut, Course}
use Rattle.infer_spec.proofs.Lists.{all_append, all_take, all_map}
use Rattle.infer_spec.proofs.RaisedRows.{limit_same, raised_rows_are_refuted}
use Rattle.infer_spec.proofs.Raising.{raised_is, good_raised, same_down, new_up, positive_product}
use Rattle.infer_spec.proofs.Found.{read_least, read_refutes, found_least, found_none}
use Rattle.infer_spec.proofs.Vectors.{listed_rises, refutes_listed, refutes_both}

-- Raised bodies

-- a body of a block of the meter is multiplied, and another stays
abbrev risen : Bool → ℕ → Body → Body
risen is r body = cond is (times_body r body) body

done_risen : (is : Bool) (r : ℕ) (body : Body) → done_as (risen is r body) ≡ done_as body
done_risen false r body = refl
done_risen true r (Solved sigs hints) = refl
done_risen true r (c.Refuted farkas) = refl
done_risen true r (Calls fun) = refl

blocker_risen : (is : Bool) (r : ℕ) (o : Option ℕ) (body : Body) → NamesBlocker o body → NamesBlocker o (risen is r body)
blocker_risen false r o body h = h
blocker_risen true r None (Solved sigs hints) h = tt
blocker_risen true r None (c.Refuted farkas) h = tt
blocker_risen true r None (Calls fun) h = absurd h
blocker_risen true r (Some f) body h = ap (times_body r) h

refuted_risen : (is : Bool) (r : ℕ) (body : Body) (farkas : Entries) → risen is r body ≡ c.Refuted farkas → body ≡ c.Refuted farkas
refuted_risen false r body farkas e = e
refuted_risen true r (Solved sigs hints) farkas e = absurd (cc)
refuted_risen true r (c.Refuted f) farkas e = e
refuted_risen true r (Calls fun) farkas e = e

positive_times : (r : ℕ) (z : ℤ) → 0 < r → pos 0 <ℤ z → pos 0 <ℤ (pos r *ℤ z)
positive_times r z pr pz = grind (arith, ints)

pub rise_times : (r : ℕ) → 0 < r → (least : ℕ) (es : Entries) → RiseFrom least es → RiseFrom least (times r es)
rise_times r pr least [] h = tt
rise_times r pr least (e ∷ es) h = (h.0, positive_times r e.1 pr h.1, rise_times r pr (suc e.0) es h.2)

all_rise_times : (r : ℕ) → 0 < r → (ess : List Entries) → AllRise ess → AllRise (map (times r) ess)
all_rise_times r pr [] h = tt
all_rise_times r pr (es ∷ ess) h = (rise_times r pr 0 es h.0, all_rise_times r pr ess h.1)

sigs_rise_times : (r : ℕ) → 0 < r → (ss : List Sig) → SigsRise ss → SigsRise (map (times_sig r) ss)
sigs_rise_times r pr [] h = tt
sigs_rise_times r pr (s ∷ ss) h = (rise_times r pr 0 s.args h.0, rise_times r pr 0 s.result h.1, sigs_rise_times r pr ss h.2)

hint_rises_times : (r : ℕ) → 0 < r → (h : Hint) → HintRises h → HintRises (times_hint r h)
hint_rises_times r pr (Let rs) h = all_rise_times r pr rs h
hint_rises_times r pr (Share p) h = rise_times r pr 0 p h
hint_rises_times r pr (Call ms) h = rise_times r pr 0 ms h

hints_rise_times : (r : ℕ) → 0 < r → (hs : List Hint) → HintsRise hs → HintsRise (map (times_hint r) hs)
hints_rise_times r pr [] h = tt
hints_rise_times r pr (x ∷ hs) h = (hint_rises_times r pr x h.0, hints_rise_times r pr hs h.1)

all_hints_rise_times : (r : ℕ) → 0 < r → (hss : List (List Hint)) → AllHintsRise hss → AllHintsRise (map (map (times_hint r)) hss)
all_hints_rise_times r pr [] h = tt
all_hints_rise_times r pr (hs ∷ hss) h = (hints_rise_times r pr hs h.0, all_hints_rise_times r pr hss h.1)

shape_risen : (is : Bool) (r : ℕ) → 0 < r → (body : Body) → IsShaped body → IsShaped (risen is r body)
shape_risen false r pr body h = h
shape_risen true r pr (Solved sigs hints) h = (sigs_rise_times r pr sigs h.0, all_hints_rise_times r pr hints h.1)
shape_risen true r pr (c.Refuted farkas) h = h
shape_risen true r pr (Calls fun) h = h

outcome_raised : (m : Meter) (r : ℕ) (block : Block) → outcome (raised m r block) ≡ outcome block
outcome_raised m r block = ap outcome (raised_is m r block) ∙ (λ i. (block.task, done_risen (is_for_meter m block.task.kind) r block.body i))

outcomes_raised : (m : Meter) (r : ℕ) (bs : List Block) → map outcome (map (raised m r) bs) ≡ map outcome bs
outcomes_raised m r [] = refl
outcomes_raised m r (block ∷ bs) = λ i. outcome_raised m r block i ∷ outcomes_raised m r bs i

outcomes_before : (kind : Kind) (t : ℕ) (bs : List Block) → map outcome (blocks_before kind t bs) ≡ map outcome bs
outcomes_before (Free budget fun target) t bs = refl
outcomes_before (k.With meter) t bs = outcomes_raised meter t bs

-- Along a course

-- the block is that of the schedule's next task after those before it, it is of the right shape, it is good, and its vector refutes its system
pub record Fits (A : Analysis) (scales : Meter → ℕ) (es : List Block) (block : Block) : Type 0 where
  pub task : next_task A.program A.degree A.work (map outcome es) ≡ Some block.task
  pub waits : NamesBlocker (blocker_of A.program block.task (map outcome es)) block.body
  pub shape : IsShaped block.body
  pub good : IsGood A.program A.degree scales es block
  pub vector : (farkas : Entries) → block.body ≡ c.Refuted farkas → IsRefutedBy (system_at A (record { blocks = es; scales = scales }) block.task) farkas
  pub goes_on : IsRefused most_allowed (plan A) (map outcome es) → ⊥
  pub limit : blocker_of A.program block.task (map outcome es) ≡ None → limit_at A (record { blocks = es; scales = scales }) block.task ≡ None

-- a clear task that is tried exceeds no limit
clear_limit : (A : Analysis) (st : State) (task : Task) → IsClear A st task → blocker_at A st task ≡ None → limit_at A st task ≡ None
clear_limit A st task clear w = by (limit_at A st task) refl
  where
    by : (o : Option What) → limit_at A st task ≡ o → o ≡ None
    by None e = refl
    by (Some what) e = absurd (clear w (TooLarge what) e)

-- good blocks hold
pub hold_of : (P : Program) (d : ℕ) (scales : Meter → ℕ) (es : List Block) (task : Task) (body : Body) → IsRight P d es (scale_at scales task.kind) task body →
    IfSolved body (HoldsAt P d scales es (record { task = task; body = body }))
hold_of P d scales es task (Solved sigs hints) h = record { t = h.least.t; one = h.one; holds = h.least.holds }
hold_of P d scales es task (c.Refuted farkas) h = tt
hold_of P d scales es task (Calls fun) h = tt

-- a run so far
pub record Runs (A : Analysis) (st : State) : Type 0 where
  pub positive : (meter : Meter) → 0 < st.scales meter
  pub fits : AllAt (Fits A st.scales) st.blocks

-- a block that names no function is tried
pub refuted_tried : (o : Option ℕ) (farkas : Entries) → NamesBlocker o (c.Refuted farkas) → o ≡ None
refuted_tried None farkas h = refl
refuted_tried (Some f) farkas h = absurd (cc)

module _ (A : Analysis) where
  pub stands_of : (st : State) → Runs A st → (task : Task) → next_at A st ≡ Some task → blocker_at A st task ≡ None → Stands A st task
  stands_of st h task e w = record {
    positive = h.positive;
    hold = λ place block there. (let f = h.fits place block there in hold_of A.program A.degree st.scales (take place st.blocks) block.task block.body f.good);
    next = e;
    tried = w;
  }

  module _ (g : Generates A) where
    fits_risen : (st : State) → ((meter : Meter) → 0 < st.scales meter) → (m : Meter) (r : ℕ) → 0 < r → (es : List Block) (block : Block) →
        AllAt (Fits A st.scales) es → Fits A st.scales es block →
        Fits A (raised_scales (k.With m) r st.scales) (map (raised m r) es) (raised m r block)
    fits_risen st positive m r pr es block all h =
        let now : State = record { blocks = es; scales = st.scales } in
        let is = is_for_meter m block.task.kind in
        let stands : blocker_at A now block.task ≡ None → Stands A now block.task = λ w. stands_of now (record { positive = positive; fits = all }) block.task h.task w in
        subst (Fits A (raised_scales (k.With m) r st.scales) (map (raised m r) es)) (sym (raised_is m r block)) (record {
          task = ap (next_task A.program A.degree A.work) (outcomes_raised m r es) ∙ h.task;
          waits = subst (λ done. NamesBlocker (blocker_of A.program block.task done) (risen is r block.body)) (sym (outcomes_raised m r es)) (blocker_risen is r _ block.body h.waits);
          shape = shape_risen is r pr block.body h.shape;
          good = subst (IsGood A.program A.degree (raised_scales (k.With m) r st.scales) (map (raised m r) es)) (raised_is m r block) (good_raised A.program A.degree m r pr es st.scales block h.good);
          vector = λ farkas e.
              let body = refuted_risen is r block.body farkas e in
              let tried = refuted_tried (blocker_at A now block.task) farkas (subst (NamesBlocker (blocker_at A now block.task)) body h.waits) in
              let rows = g.raised now block.task (stands tried) (k.With m) r pr in
              refutes_both _ _ farkas (h.vector farkas body) (raised_rows_are_refuted _ _ rows.0 rows.1 rows.2 _);
          goes_on = λ refused. h.goes_on (subst (IsRefused most_allowed (plan A)) (outcomes_raised m r es) refused);
          limit = λ w.
              let tried = ap (blocker_of A.program block.task) (sym (outcomes_raised m r es)) ∙ w in
              let rows = g.raised now block.task (stands tried) (k.With m) r pr in
              limit_same A.generator block.task _ _ rows.0 rows.2 ∙ h.limit tried;
        })

    all_raised : (st : State) (kind : Kind) (r : ℕ) → 0 < r → Runs A st → AllAt (Fits A (raised_scales kind r st.scales)) (blocks_before kind r st.blocks)
    all_raised st (Free budget fun target) r pr h = h.fits
    all_raised st (k.With m) r pr h =
        all_map (Fits A st.scales) (Fits A (raised_scales (k.With m) r st.scales)) (raised m r) st.blocks
        (λ place block there f. fits_risen st h.positive m r pr (take place st.blocks) block (all_take (Fits A st.scales) st.blocks place h.fits) f) h.fits

    positive_raised : (scales : Meter → ℕ) (kind : Kind) (r : ℕ) → 0 < r → ((m : Meter) → 0 < scales m) → (m : Meter) → 0 < raised_scales kind r scales m
    positive_raised scales (Free budget fun target) r pr h m = h m
    positive_raised scales (k.With meter) r pr h m = by (same_meter meter m)
      where
        by : (is : Bool) → 0 < cond is (r * scales m) (scales m)
        by false = h m
        by true = positive_product r (scales m) pr (h m)

    -- what was found is good after the raising
    good_found : (scales : Meter → ℕ) (es : List Block) (group : ℕ) (kind : Kind) (sigs : List Sig) (hints : List (List Hint)) →
        (h : Least A.program A.degree es (scale_at scales kind) (solving (record { group = group; kind = kind }) sigs hints)) →
        IsGood A.program A.degree (raised_scales kind h.t scales) (blocks_before kind h.t es) (solving (record { group = group; kind = kind }) sigs hints)
    good_found scales es group (Free budget fun target) sigs hints h = record { least = h; one = tt }
    good_found scales es group (k.With m) sigs hints h =
        let task : Task = record { group = group; kind = k.With m } in
        let positive = h.holds.positive in
        subst (λ is. LeastAt A.program A.degree (map (raised m h.t) es) (cond is (h.t * scales m) (scales m)) (solving task sigs hints)) (sym (same_self m)) (record {
          least = record {
            t = 1;
            holds = new_up A.program A.degree m h.t es group (scales m) sigs hints h.holds;
            least = λ u ss hss e.
                let low = h.least (h.t * u) ss hss (same_down A.program A.degree m h.t es group (scales m) u ss hss positive e) in
                let regroup : (h.t * u) * weight A.program A.degree (solving task sigs hints) ≡ h.t * (u * weight A.program A.degree (solving task sigs hints)) = grind arith in
                let less : u * weight A.program A.degree (solving task sigs hints) ≤ weight A.program A.degree (solving task ss hss) = le_of_mul-le-mul_left {k = h.t} (omega (arith, low, regroup)) positive in
                omega (arith, less);
          };
          one = refl;
        })

    runs_after : (st : State) (finding : Finding) (task : Task) → Runs A st → next_at A st ≡ Some task → (IsRefusedAt A st → ⊥) → (blocker_at A st task ≡ None → limit_at A st task ≡ None) →
        ComesOut A st task finding → Runs A (after A task finding st)
    runs_after st (Waits f) task h e on few comes = record {
      positive = h.positive;
      fits = all_append (Fits A st.scales) st.blocks _ h.fits (record {
        task = e;
        waits = subst (λ o. NamesBlocker o (Calls f)) (sym comes) refl;
        shape = tt;
        good = tt;
        vector = λ farkas q. absurd (cc);
        goes_on = on;
        limit = few;
      });
    }
    runs_after st (Has t x) task h e on few comes =
        let stands = stands_of st h task e comes.0 in
        let positive = comes.1.whole.are.positive in
        let least = read_least (system_at A st task) (g.system st task stands) (rule_of A) t x comes.1 in
        let same = outcomes_before task.kind t st.blocks in
        record {
          positive = positive_raised st.scales task.kind t positive h.positive;
          fits = all_append (Fits A (raised_scales task.kind t st.scales)) (blocks_before task.kind t st.blocks) _ (all_raised st task.kind t positive h) (record {
            task = ap (next_task A.program A.degree A.work) same ∙ e;
            waits = subst (λ o. NamesBlocker o (body_at A st task x)) (sym (ap (blocker_of A.program task) same ∙ comes.0)) tt;
            shape = g.shape st task stands t x positive least.solves;
            good = good_found st.scales st.blocks task.group task.kind _ _ (found_least A g st task stands t x positive least);
            vector = λ farkas q. absurd (cc);
            goes_on = λ refused. on (subst (IsRefused most_allowed (plan A)) same refused);
            limit = λ w. (let rows = g.raised st task stands task.kind t positive in limit_same A.generator task _ _ rows.0 rows.2 ∙ few comes.0);
          });
        }
    runs_after st (HasNone y) task h e on few comes =
        let stands = stands_of st h task e comes.0 in
        let refutes = read_refutes (system_at A st task) (g.system st task stands) (rule_of A) y comes.1 in
        record {
          positive = h.positive;
          fits = all_append (Fits A st.scales) st.blocks _ h.fits (record {
            task = e;
            waits = subst (λ o. NamesBlocker o (c.Refuted (listed 0 y))) (sym comes.0) tt;
            shape = listed_rises y;
            good = found_none A g st task stands (map pos y) refutes;
            vector = λ farkas q. subst (IsRefutedBy (system_at A st task)) (same_vector _ farkas q) (refutes_listed (system_at A st task) y refutes);
            goes_on = on;
            limit = few;
          });
        }
      where
        same_vector : (f farkas : Entries) → c.Refuted f ≡ c.Refuted farkas → f ≡ farkas
        same_vector f farkas q = cc

    pub runs : (findings : List Finding) (st : State) → Course A findings st → Runs A st
    runs [] st h = subst (Runs A) (sym h) (record { positive = λ m. omega arith; fits = λ place block there. absurd (cc) })
    runs (f ∷ fs) st h = subst (Runs A) (sym h.2.is) (runs_after h.0 f h.2.task (runs fs h.0 h.1) h.2.is_next h.2.goes_on (clear_limit A h.0 h.2.task h.2.clear) h.2.comes)
