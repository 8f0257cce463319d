-- Bounds of a call hold at its arguments.
use Rattle.std.proofs.Common.{◌≡◌, ◌≤◌, ◌<◌, ◌*◌, ◌/◌, ℕ, List, Option, Some, None, Result, Ok, Err, sym, subst, arith}
use Rattle.std.specs.Prelude.{IfErr, IfSome, IsErrAnd}
use Rattle.raml_syntax.specs.Value.{Value}
use Rattle.cost_free.specs.declared.task.Meter.{Meter}
use Rattle.cost_free.specs.declared.task.Meter.TheVariants.{Ticks, Cells, Work}
use Rattle.annot_types.specs.Program.{Program}
use Rattle.annot_types.specs.Certificate.{Certificate}
use Rattle.analysis_report.specs.Floors as f
use Rattle.analysis_report.specs.Floors.{IsFloor, Leaves, rank}
use Rattle.std.proofs.lemmas.Nat.{le-div}
use Rattle.std.specs.Prelude.{slice_get}
use Rattle.raml_syntax.specs.Tree.{Function, Prog}
use Rattle.raml_syntax.specs.Types.{types_of}
use Rattle.raml_syntax.specs.Value.{HaveTypes}
use Rattle.raml_syntax.specs.Eval.{run_of}
use Rattle.stack_compile.specs.Laws.{at, IsGoing}
use Rattle.rules_soundness_laws.specs.Enough.{cost}
use Rattle.analysis_report.specs.Limits.{Asks, NeverAsks}
use Rattle.analysis_report.specs.Floors.{FloorsHold}
use Rattle.analysis_report.specs.Told.{FloorRefused, FloorsRefused, IsBound, AllHold}
use Rattle.analysis_report.specs.declared.bounds.FloorFault.{FloorFault}
use Rattle.analysis_report.specs.declared.bounds.FloorFault.TheVariants as fault
use Rattle.analysis_report.specs.declared.bounds.Floors.{Floors}

-- where the bound on work leaves, those on ticks and cells do not
pub work_refused : (N : Program) (c : Certificate) (fun : ℕ) (vs : List Value) (ticks cells : Option ℕ) (r : Result Floors FloorFault) (e : FloorFault) →
    IsErrAnd r (λ x. x ≡ e) → IsFloor N c fun vs Ticks ticks → IsFloor N c fun vs Cells cells → FloorRefused N c fun vs Work e → IfErr r (FloorsRefused N c fun vs)
work_refused N c fun vs ticks cells (Ok floors) e same t l h = tt
work_refused N c fun vs ticks cells (Err x) e same t l h = subst (FloorsRefused N c fun vs) (sym same) (by e h)
  where
    before : (other : Meter) → rank other < 2 → (floor : Option ℕ) × IsFloor N c fun vs other floor
    before Ticks below = (ticks, t)
    before Cells below = (cells, l)
    before Work below = absurd (omega (arith, below))

    by : (e : FloorFault) → FloorRefused N c fun vs Work e → FloorsRefused N c fun vs e
    by (fault.Leaves meter) h =
        let o = h.1 in
        subst (Leaves N c fun vs) (sym h.0) (record { den = o.den; terms = o.terms; claims = o.claims; leaves = o.leaves; before = before })
    by fault.NoMemory h = tt

quotient : (den n most : ℕ) → 0 < den → den * n ≤ most → n ≤ most / den
quotient den n most positive few = le-div n most den positive (omega (arith, few))

-- what numbers that are of bounds are good for
module _ (never : NeverAsks) (P : Prog) (f : ℕ) (args : List Value) (fun : Function) (there : slice_get P f ≡ Some fun) (has : HaveTypes args (types_of fun)) where
  at_most : (meter : Meter) (floor : Option ℕ) → IsBound P f args meter floor → IfSome floor (λ n. (limit : ℕ) → cost meter (run_of P fun args limit) ≤ n)
  at_most meter None h = tt
  at_most meter (Some n) h = λ limit.
      let b = h fun there in
      subst (λ k. cost meter (run_of P fun args limit) ≤ k) (sym b.is) (quotient b.den _ _ b.positive (b.bounds.runs args limit has))

  no_more_ticks : (floor : Option ℕ) → IsBound P f args Ticks floor → IfSome floor (λ n. (m : ℕ) → (at P f args m).ticks ≤ n)
  no_more_ticks None h = tt
  no_more_ticks (Some n) h = λ m.
      let b = h fun there in
      subst (λ k. (at P f args m).ticks ≤ k) (sym b.is) (quotient b.den _ _ b.positive (b.bounds.machine args m has))

  no_more_cells : (floor : Option ℕ) → IsBound P f args Cells floor → IfSome floor (λ n. (m : ℕ) → (at P f args m).cells ≤ n)
  no_more_cells None h = tt
  no_more_cells (Some n) h = λ m.
      let b = h fun there in
      subst (λ k. (at P f args m).cells ≤ k) (sym b.is) (quotient b.den _ _ b.positive (b.bounds.machine args m has))

  not_full : (floor : Option ℕ) → IsBound P f args Cells floor → IfSome floor (λ n. (limit m : ℕ) → n ≤ limit → Asks P limit (at P f args m) → ⊥)
  not_full None h = tt
  not_full (Some n) h = λ limit m room asks.
      let b = h fun there in
      never P f fun b.den b.terms b.positive b.bounds args has limit (subst (λ k. k ≤ limit) b.is room) m asks

  not_stopped : (floor : Option ℕ) → IsBound P f args Work floor → IfSome floor (λ n. (m : ℕ) → 4 * n ≤ m → IsGoing (at P f args m).at → ⊥)
  not_stopped None h = tt
  not_stopped (Some n) h = λ m long going.
      let b = h fun there in
      let less = b.bounds.machine args m has going in
      let more = subst (λ k. 4 * k ≤ m) b.is long in
      absurd (omega (arith, less, more))

pub floors_hold : NeverAsks → (P : Prog) (k : ℕ) (args : List Value) (floors : f.Floors) → IsBound P k args Ticks (floors Ticks) → IsBound P k args Cells (floors Cells) →
    IsBound P k args Work (floors Work) → AllHold P k args floors
floors_hold never P k args floors ticks cells work fun there has = record {
  runs = runs;
  ticks = no_more_ticks never P k args fun there has (floors Ticks) ticks;
  cells = no_more_cells never P k args fun there has (floors Cells) cells;
  never_full = not_full never P k args fun there has (floors Cells) cells;
  never_stopped = not_stopped never P k args fun there has (floors Work) work;
}
  where
    runs : (meter : Meter) → IfSome (floors meter) (λ n. (limit : ℕ) → cost meter (run_of P fun args limit) ≤ n)
    runs Ticks = at_most never P k args fun there has Ticks (floors Ticks) ticks
    runs Cells = at_most never P k args fun there has Cells (floors Cells) cells
    runs Work = at_most never P k args fun there has Work (floors Work) work
