-- The systems of a program's tasks are what courses ask for.
use Rattle.std.proofs.Common.{◌≡◌, refl, ap, sym, ◌∙◌, arith, subst}
use Rattle.std.specs.Prelude.{ℕ, ◌<◌, Bool, true, false, cond, ℤ, pos, ◌*ℤ◌, List, [], ◌∷◌, map, Option}
use Rattle.std.proofs.lemmas.Int.{ints}
use Rattle.linear_rows.specs.Terms.{SparseRow}
use Rattle.linear_rows.specs.Systems.{LinearSystem, right_sides, numbers_from}
use Rattle.linear_rows.specs.Vectors.{scale}
use Rattle.cost_free.specs.declared.task.Meter.{Meter}
use Rattle.cost_free.specs.Task as k
use Rattle.cost_free.specs.Task.{Kind, Free, Task}
use Rattle.cost_free.specs.Blocked.{is_for_meter}
use Rattle.annot_types.specs.Program.{Program}
use Rattle.annot_types.specs.Holds.{raised}
use Rattle.annot_types.specs.System.{system}
use Rattle.annot_types.specs.Laws.{raised_scale}
use Rattle.rules_spec.specs.Raised.{times_right, raised_by}
use Rattle.rules_spec.proofs.Refuted.{rows_are_raised}
use Rattle.infer_spec.specs.States.{State, done, scale_at, raised_scales, raise}
use Rattle.infer_spec.specs.Generator.{Analysis, AreRaised, system_at}
use Rattle.infer_systems_laws.specs.Tried.{TriedAreTasks, TriedHaveSystems}
use Rattle.infer_systems_laws.specs.Analysed.{analysis_of}
use Rattle.rules_systems_laws.specs.Shaped.{TargetsAreNumbered}
use Rattle.infer_systems_laws.specs.Laws.{SystemsGenerate}
use Rattle.rules_systems_laws.proofs.Scheduled.{numbered}
use Rattle.rules_systems_laws.proofs.Shapes.{told_rise}
use Rattle.rules_systems_laws.proofs.Solutions.{solutions_hold, solutions_weigh, what_holds_solves}

-- Raised systems

same_matrix : (u n : ℕ) (rows : List SparseRow) →
    map (λ (row : SparseRow). numbers_from 0 n row.terms) rows ≡ map (λ (row : SparseRow). numbers_from 0 n row.terms) (map (λ (row : SparseRow). record { terms = row.terms; right = pos u *ℤ row.right }) rows)
same_matrix u n [] = refl
same_matrix u n (row ∷ rows) = ap (λ l. numbers_from 0 n row.terms ∷ l) (same_matrix u n rows)

rights_rise : (u : ℕ) (rows : List SparseRow) →
    map (λ (row : SparseRow). row.right) (map (λ (row : SparseRow). record { terms = row.terms; right = pos u *ℤ row.right }) rows) ≡ scale (pos u) (map (λ (row : SparseRow). row.right) rows)
rights_rise u [] = refl
rights_rise u (row ∷ rows) = ap (λ l. (pos u *ℤ row.right) ∷ l) (rights_rise u rows)

times_raised : (u : ℕ) (s r : LinearSystem) → r ≡ times_right u s → AreRaised u s r
times_raised u s r e = subst (AreRaised u s) (sym e) (record { unknowns = refl; coefficients = same_matrix u s.unknowns s.rows; right = rights_rise u s.rows })

once_raised : (s r : LinearSystem) → r ≡ s → AreRaised 1 s r
once_raised s r e = subst (AreRaised 1 s) (sym e) (record { unknowns = refl; coefficients = refl; right = once (right_sides s) }) where
  once : (xs : List ℤ) → xs ≡ scale (pos 1) xs
  once [] = refl
  once (x ∷ xs) = λ i. (let e : x ≡ pos 1 *ℤ x = omega (arith, ints) in e) i ∷ once xs i

raised_positive : (meter : Meter) (u : ℕ) (kind : Kind) → 0 < u → 0 < raised_by meter u kind
raised_positive meter u kind h = by (is_for_meter meter kind) where
  by : (b : Bool) → 0 < cond b u 1
  by true = h
  by false = omega arith

-- the scale of a task where those of a meter are raised
scale_free : (scales : Meter → ℕ) (budget f number r : ℕ) (kind : Kind) → scale_at (raised_scales (Free budget f number) r scales) kind ≡ scale_at scales kind
scale_free scales budget f number r (Free b g n) = refl
scale_free scales budget f number r (k.With meter) = refl

scale_raised : (scales : Meter → ℕ) (meter : Meter) (r : ℕ) (kind : Kind) → scale_at (raised_scales (k.With meter) r scales) kind ≡ raised_scale meter r kind (scale_at scales kind)
scale_raised scales meter r (Free b g n) = refl
scale_raised scales meter r (k.With other) = refl

module _ (P : Program) (d : ℕ) (pick : List ℤ → ℤ → Option ℕ) (st : State) (task : Task) where
  abbrev A : Analysis
  A = analysis_of P d pick

  systems_rise : (kind : Kind) (r : ℕ) → 0 < r → (n : ℕ) × (0 < n) × AreRaised n (system_at A st task) (system_at A (raise kind r st) task)
  systems_rise (Free budget f number) r h = (1, omega arith, once_raised (system_at A st task) _ (ap (system P d st.blocks task) (scale_free st.scales budget f number r task.kind)))
  systems_rise (k.With meter) r h = (
    raised_by meter r task.kind,
    raised_positive meter r task.kind h,
    times_raised (raised_by meter r task.kind) (system_at A st task) _
        (ap (system P d (map (raised meter r) st.blocks) task) (scale_raised st.scales meter r task.kind) ∙ rows_are_raised P d st.blocks task (scale_at st.scales task.kind) meter r h),
  )

pub systems_generate : TriedAreTasks → TriedHaveSystems → TargetsAreNumbered → SystemsGenerate
systems_generate tasks systems targets P ordered d pick =
    let A = analysis_of P d pick in
    record {
      system = λ st task stands. systems A ordered st task stands;
      hold = λ st task stands t x positive solves.
          solutions_hold P d st.blocks task (scale_at st.scales task.kind) t x (tasks A ordered st task stands) (numbered P d task.group task.kind (targets P d A.work (done st) task stands.next)) positive solves;
      shape = λ st task stands t x positive solves. told_rise P d st.blocks task x;
      weigh = λ st task stands t x positive solves. solutions_weigh P d st.blocks task (scale_at st.scales task.kind) x (tasks A ordered st task stands);
      solve = λ st task stands t sigs hints holds.
          let x = what_holds_solves P d st.blocks task (scale_at st.scales task.kind) t sigs hints (tasks A ordered st task stands) holds in (x.0, x.1, x.2);
      raised = λ st task stands kind r positive. systems_rise P d pick st task kind r positive;
    }
