-- Costs of runs lie below what is drawn of their bounds.
use Rattle.std.proofs.Common.{◌≡◌, ◌≤◌, ◌*◌, ◌∙◌, ℕ, List, Option, Some, None, Ok, IfSome, sym, subst, arith}
use Rattle.std.specs.Prelude.{slice_get}
use Rattle.raml_syntax.specs.Tree.{Text, Function, Prog}
use Rattle.raml_syntax.specs.Value.{Value, HaveTypes}
use Rattle.raml_syntax.specs.Types.{types_of}
use Rattle.raml_syntax.specs.Eval.{run_of}
use Rattle.cost_free.specs.declared.task.Meter.{Meter}
use Rattle.cost_free.specs.declared.task.Meter.TheVariants.{Ticks, Cells, Work}
use Rattle.annot_types.specs.Program.{Program}
use Rattle.annot_types.specs.Certificate.{Certificate}
use Rattle.stack_compile.specs.Laws.{at}
use Rattle.rules_soundness_laws.specs.Enough.{cost}
use Rattle.value_text.specs.Reading.{Answers}
use Rattle.analysis_report.specs.Floors.{Floors}
use Rattle.analysis_report.specs.Told.{AllHold}
use Rattle.analysis_report.specs.declared.bounds.FloorFault.TheVariants as x
use Rattle.explain_runs.specs.declared.outcome.Limits.{Limits}
use Rattle.explain_runs.specs.declared.outcome.Measured.{Measured}
use Rattle.explain_runs.specs.declared.outcome.Outcome.{Outcome}
use Rattle.explain_runs.specs.declared.outcome.Outcome.TheVariants as o
use Rattle.explain_runs.specs.Measure.{EndsAs, HasHalted, IsMeasured, IsMeasuredOn}
use Rattle.explain_marks.specs.Marks.{AreReadAs, BoundIs, IsDrawn, CostsAtMost, IsUpheld, HasEnded, IsRunOf, cost_of}
use Rattle.explain_marks.specs.declared.reading.Reading.{Reading}
use Rattle.explain_marks.specs.declared.run.Run.{Run}

-- ---- what is drawn holds

module _ (P : Prog) (f : ℕ) (args : List Value) (floors : Floors) (hold : AllHold P f args floors) where
  four_times : (n b work : ℕ) → work ≤ n → b ≡ n * 4 → 4 * work ≤ b
  four_times n b work few is = omega (arith, few, is)

  pub upheld : (meter : Meter) (drawn : Option ℕ) → IsDrawn meter (floors meter) drawn → IfSome drawn (IsUpheld P f args meter)
  upheld meter None is = tt
  upheld Ticks (Some n) is = λ g there types.
      subst (λ o. IfSome o (λ n. (m : ℕ) → (at P f args m).ticks ≤ n)) (sym is) (hold g there types).ticks
  upheld Cells (Some n) is = λ g there types.
      subst (λ o. IfSome o (λ n. (m : ℕ) → (at P f args m).cells ≤ n)) (sym is) (hold g there types).cells
  upheld Work (Some b) is = λ g there types. by g (floors Work) is ((hold g there types).runs Work)
    where
      by : (g : Function) → (floor : Option ℕ) → IsDrawn Work floor (Some b) → IfSome floor (λ n. (limit : ℕ) → cost Work (run_of P g args limit) ≤ n) →
          (limit : ℕ) → 4 * (run_of P g args limit).work ≤ b
      by g (Some n) drawn costs limit = four_times n b (run_of P g args limit).work (costs limit) drawn.1
      by g None drawn costs limit = absurd (cc)

-- ---- what was measured lies below

module _ (P : Prog) (f : ℕ) (g : Function) (args : List Value) (limits : Limits) where
  halted_below : (k n : ℕ) (Is : Text → Type 0) → HasHalted P f g args k Is → (at P f args k).made ≡ k → CostsAtMost Work P f g args n → k ≤ n
  halted_below k n Is halted made costs =
      let few = halted.evaluated.few in
      let most = costs halted.evaluated.limit in
      omega (arith, few, most, made)

  ended_below : (k n : ℕ) (outcome : Outcome) → EndsAs P f g args limits k outcome → HasEnded outcome → (at P f args k).made ≡ k → CostsAtMost Work P f g args n → k ≤ n
  ended_below k n (o.Halted value) ends ended made costs = halted_below k n _ ends made costs
  ended_below k n o.TooLong ends ended made costs = halted_below k n _ ends made costs
  ended_below k n o.Stopped ends ended made costs = absurd ended
  ended_below k n o.HeapFull ends ended made costs = absurd ended

  pub measured_below : (meter : Meter) (m : Measured) (n : ℕ) → IsMeasured P f g args limits m → HasEnded m.outcome → CostsAtMost meter P f g args n → cost_of meter m ≤ n
  measured_below Ticks m n is ended costs = subst (λ k. k ≤ n) (sym is.ticks) (costs m.instructions)
  measured_below Cells m n is ended costs = subst (λ k. k ≤ n) (sym is.cells) (costs m.instructions)
  measured_below Work m n is ended costs = ended_below m.instructions n m.outcome is.ends ended is.made costs

  -- also below what is drawn, where something is
  pub drawn_below : (meter : Meter) (m : Measured) (drawn : Option ℕ) → slice_get P f ≡ Some g → HaveTypes args (types_of g) → IsMeasured P f g args limits m → HasEnded m.outcome →
      IfSome drawn (IsUpheld P f args meter) → IfSome drawn (λ n. cost_of meter m ≤ n)
  drawn_below meter m None there types is ended holds = tt
  drawn_below meter m (Some n) there types is ended holds = measured_below meter m n is ended (holds g there types)

-- ---- runs

pub run_given : (r : Option Run) (P : Prog) (N : Program) (c : Certificate) (f : ℕ) (meter : Meter) (place : ℕ) (data' : Text) (limits : Limits) (m : Measured) (read : Reading) →
    IsMeasuredOn P f data' limits m →
    ((g : Function) (args : List Value) → slice_get P f ≡ Some g → Answers data' (types_of g) (Ok args) → AreReadAs P N c f meter place args (Some read)) →
    IfSome r (λ run. HasEnded m.outcome) → IfSome r (λ run. run.cost ≡ cost_of meter m) → IfSome r (λ run. run.bound ≡ read.bound) → IfSome r (λ run. run.size ≡ read.size) →
    IfSome r (IsRunOf P N c f meter place data')
run_given None P N c f meter place data' limits m read on told ended costs same sized = tt
run_given (Some run) P N c f meter place data' limits m read on told ended costs same sized =
    let at = told on.function on.args on.there on.spelled in
    let below = drawn_below P f on.function on.args limits meter m read.bound on.there on.spelled.0.spelled.typed on.measured ended at.1 in (
      record {
        function = on.function;
        there = on.there;
        args = on.args;
        spelled = on.spelled;
        limits = limits;
        measured = m;
        is = on.measured;
        ended = ended;
        costs = costs;
        bounded = subst (BoundIs N c f on.args meter) (sym same) at.0;
        below = subst (λ b. IfSome b (λ n. run.cost ≤ n)) (sym same) (subst (λ k. IfSome read.bound (λ n. k ≤ n)) (sym costs) below);
      },
      sized ∙ at.2,
    )
