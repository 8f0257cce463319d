-- What a course's certificate is.
use Rattle.std.proofs.Common.{⊎_elim, ◌≡◌, ◌≤◌, ◌<◌, ℕ, Bool, true, false, pos, ◌<ℤ◌, List, map, take, slice_get, Some, None, refl, sym, ap, ◌∙◌, subst, arith}
use Rattle.std.proofs.lemmas.Int.{ints}
use Rattle.cost_free.specs.declared.task.Meter.{Meter}
use Rattle.cost_free.specs.declared.task.Meter.TheVariants.{Ticks, Cells, Work}
use Rattle.cost_free.specs.Task as k
use Rattle.cost_free.specs.Task.{Free, Task}
use Rattle.annot_types.specs.Program.{next_task, blocker_of}
use Rattle.annot_types.specs.Certificate as c
use Rattle.annot_types.specs.Certificate.{Entries, Body, Solved, Calls, IsSolved, Block, Certificate, has_work, outcome}
use Rattle.annot_types.specs.Holds.{Holds, raised}
use Rattle.annot_types.specs.Held.{scale_of, scale_for, NamesBlocker, HoldsInPlace, IfSolved}
use Rattle.annot_types.specs.Least.{Refuted, Least}
use Rattle.annot_types.specs.System.{system, IsRefutedBy}
use Rattle.infer_spec.specs.States.{State, scale_at, raised_scales, certificate_of}
use Rattle.infer_spec.specs.Good.{HoldsAt, IsRight, IsGood}
use Rattle.infer_spec.specs.Generator.{Analysis, most_allowed, limit_of, plan, next_at, system_at}
use Rattle.infer_spec.specs.Courses.{IsOver}
use Rattle.infer_spec.specs.Verifying.{TooLarge, BlockFault}
use Rattle.infer_spec.specs.Laws.{RaisedStayGood, schedule_of, StaysWithin, CoursesStayWithin, NoneTooLarge, NoneUnrefuted, FoundIsLeast, FoundIsRefuted, CoursesAreGood, Certifies, CoursesCertify}
use Rattle.infer_spec.proofs.Lists.{all_map}
use Rattle.annot_types.proofs.Lists.{there_or_all, some_none}
use Rattle.cost_free.specs.Refused.{IsRefused}
use Rattle.annot_types.specs.Program.{results}
use Rattle.infer_spec.proofs.Raising.{good_raised}
use Rattle.infer_spec.proofs.Found.{read_least, read_refutes, found_least, found_none}
use Rattle.infer_spec.proofs.Vectors.{refutes_listed}
use Rattle.infer_spec.proofs.Asked.{task_asked, work_is, scale_is}
use Rattle.infer_spec.proofs.Running.{Runs, runs, hold_of, refuted_tried}
use Rattle.infer_spec.specs.Places.{rule_of}

pub raised_stay_good : RaisedStayGood
raised_stay_good P d st (Free budget fun target) r pr h = h
raised_stay_good P d st (k.With m) r pr h =
    all_map (IsGood P d st.scales) (IsGood P d (raised_scales (k.With m) r st.scales)) (raised m r) st.blocks
    (λ place block there g. good_raised P d m r pr (take place st.blocks) st.scales block g) h

pub courses_are_good : CoursesAreGood
courses_are_good A g findings st h =
    let r = runs A g findings st h in (r.positive, λ place block there. (let f = r.fits place block there in f.good))

pub found_is_least : FoundIsLeast
found_is_least A g st task stands t x h =
    let least = read_least (system_at A st task) (g.system st task stands) (rule_of A) t x h in
    (found_least A g st task stands t x h.whole.are.positive least, refl)

pub found_is_refuted : FoundIsRefuted
found_is_refuted A g st task stands y h =
    let r = read_refutes (system_at A st task) (g.system st task stands) (rule_of A) y h in
    (refutes_listed (system_at A st task) y r, found_none A g st task stands (map pos y) r)

module _ (A : Analysis) (st : State) (h : Runs A st) (over : IsOver A st) where
  abbrev whole : Certificate
  whole = certificate_of A.degree A.work st

  scale : (place : ℕ) (block : Block) → slice_get st.blocks place ≡ Some block → scale_at st.scales block.task.kind ≡ scale_for whole block.task.kind
  scale place block there =
      let f = h.fits place block there in
      sym (scale_is A.degree A.work st block.task (task_asked A.program A.degree A.work (map outcome (take place st.blocks)) block.task f.task))

  in_place : (place : ℕ) (block : Block) → slice_get st.blocks place ≡ Some block → IfSolved block.body (HoldsInPlace A.program whole place block)
  in_place place block there =
      let f = h.fits place block there in
      by block.body (hold_of A.program A.degree st.scales (take place st.blocks) block.task block.body f.good)
    where
      by : (body : Body) → IfSolved body (HoldsAt A.program A.degree st.scales (take place st.blocks) (record { task = block.task; body = body })) →
          IfSolved body (HoldsInPlace A.program whole place (record { task = block.task; body = body }))
      by (Solved sigs hints) k = record {
        t = k.t;
        one = k.one;
        holds = subst (λ n. Holds A.program A.degree (take place st.blocks) n (record { task = block.task; body = Solved sigs hints }) k.t) (scale place block there) k.holds;
      }
      by (c.Refuted farkas) k = tt
      by (Calls fun) k = tt

  scales_positive : (work : Bool) (meter : Meter) → pos 0 <ℤ scale_of (certificate_of A.degree work st) meter
  scales_positive work Ticks = of_natural (st.scales Ticks) (h.positive Ticks)
    where
      of_natural : (n : ℕ) → 0 < n → pos 0 <ℤ pos n
      of_natural n p = grind (arith, ints, p)
  scales_positive work Cells = of_natural (st.scales Cells) (h.positive Cells)
    where
      of_natural : (n : ℕ) → 0 < n → pos 0 <ℤ pos n
      of_natural n p = grind (arith, ints, p)
  scales_positive true Work = of_natural (st.scales Work) (h.positive Work)
    where
      of_natural : (n : ℕ) → 0 < n → pos 0 <ℤ pos n
      of_natural n p = grind (arith, ints, p)
  scales_positive false Work = grind (arith, ints)

  none_refused : (place : ℕ) → IsRefused most_allowed (plan A) (map outcome (take place st.blocks)) → ⊥
  none_refused place refused = ⊎_elim
      (λ b. (let f = h.fits place b.0 b.1 in f.goes_on refused))
      (λ e. some_none refused.task (next_at A st) (ap (λ bs. next_task A.program A.degree A.work (map outcome bs)) (sym e) ∙ refused.is_next) over)
      (there_or_all st.blocks place)

  pub run_within : StaysWithin A whole
  run_within = record {
    goes_on = λ place refused.
        let same : schedule_of A.program whole ≡ plan A = λ i. record { results = results A.program; groups = A.program.groups; degree = A.degree; work = work_is A.degree A.work st i } in
        none_refused place (subst (λ p. IsRefused most_allowed p (map outcome (take place st.blocks))) same refused);
    limits = λ place block there tried.
        let f = h.fits place block there in
        subst (λ n. limit_of A.generator block.task (system A.program A.degree (take place st.blocks) block.task n) ≡ None) (scale place block there) (f.limit tried);
  }

  pub run_certifies : 1 ≤ A.degree → A.degree ≤ 4 → Certifies A.program whole
  run_certifies some few = record {
    valid = record {
      held = record {
        least_degree = some;
        most_degree = few;
        scales = scales_positive A.work;
        blocks = λ place block there.
            let f = h.fits place block there in
            record {
              task = ap (λ w. next_task A.program A.degree w (map outcome (take place st.blocks))) (work_is A.degree A.work st) ∙ f.task;
              waits = f.waits;
              shape = f.shape;
              holds = in_place place block there;
            };
        ended = ap (λ w. next_task A.program A.degree w (map outcome st.blocks)) (work_is A.degree A.work st) ∙ over;
      };
      refuted = λ place block farkas there e.
          let f = h.fits place block there in
          subst (λ n. IsRefutedBy (system A.program A.degree (take place st.blocks) block.task n) farkas) (scale place block there) (f.vector farkas e);
    };
    least = λ place block there solved.
        let f = h.fits place block there in
        subst (λ n. Least A.program A.degree (take place st.blocks) n block) (scale place block there) (of_solved (take place st.blocks) (scale_at st.scales block.task.kind) block.task block.body solved f.good);
    refuted = λ place block farkas there e.
        let f = h.fits place block there in
        subst (Refuted A.program A.degree (take place st.blocks) block.task) (scale place block there)
        (subst (IsRight A.program A.degree (take place st.blocks) (scale_at st.scales block.task.kind) block.task) e f.good);
  }
    where
      of_solved : (es : List Block) (n : ℕ) (task : Task) (body : Body) → IsSolved body → IsRight A.program A.degree es n task body → Least A.program A.degree es n (record { task = task; body = body })
      of_solved es n task (Solved sigs hints) s k = k.least
      of_solved es n task (c.Refuted farkas) s k = absurd s
      of_solved es n task (Calls fun) s k = absurd s

pub courses_certify : CoursesCertify
courses_certify A g some few certificate h =
    subst (Certifies A.program) (sym h.is) (run_certifies A h.state (runs A g h.findings h.state h.course) h.over some few)

pub courses_stay_within : CoursesStayWithin
courses_stay_within A g certificate h = subst (StaysWithin A) (sym h.is) (run_within A h.state (runs A g h.findings h.state h.course) h.over)

pub none_too_large : NoneTooLarge
none_too_large A g certificate h place what fault = of_run (subst (λ v. BlockFault A.program A.generator v place (TooLarge what)) h.is fault)
  where
    of_run : BlockFault A.program A.generator (certificate_of A.degree A.work h.state) place (TooLarge what) → ⊥
    of_run fault =
        let r = runs A g h.findings h.state h.course in
        let f = r.fits place fault.block fault.there in
        let blocker = blocker_of A.program fault.block.task (map outcome (take place h.state.blocks)) in
        let tried = refuted_tried blocker fault.farkas (subst (NamesBlocker blocker) fault.refuted f.waits) in
        let within = run_within A h.state r h.over in
        let none = sym fault.is ∙ within.limits place fault.block fault.there tried in absurd (cc)

pub none_unrefuted : NoneUnrefuted
none_unrefuted never P G certificate valid place fault =
    let r = valid.refuted place fault.block fault.farkas fault.there fault.refuted in
    ⊎_elim (λ no'. no' r.rows) (λ f. never _ _ f.1 r.refutes f.2) fault.is.2
