-- A call is of one function on one list of arguments, its bounds are one each, and its run has one end.
use Rattle.std.proofs.Common.{◌≡◌, ◌≤◌, ◌<◌, ◌+◌, ℕ, List, [], ◌∷◌, Option, None, Result, Ok, Err, refl, sym, ap, subst, ◌∙◌, arith}
use Rattle.raml_syntax.specs.Tree.{Text, Function, Prog}
use Rattle.raml_syntax.specs.Value.{Value}
use Rattle.raml_syntax.specs.Types.{types_of}
use Rattle.raml_syntax.specs.Place.{place_of}
use Rattle.stack_compile.specs.Code.{bodies_of}
use Rattle.stack_compile.specs.Laws.{at, IsGoing}
use Rattle.stack_compile.specs.Machine.{Halted, State, move, start}
use Rattle.stack_compile.proofs.After.{stays, after_add, later_grows}
use Rattle.metered_vm.specs.Moving.{TakesCell}
use Rattle.metered_vm.specs.Ending.{next_of}
use Rattle.value_text.specs.Reading.{Answers}
use Rattle.value_text.specs.declared.fault.DataFault.{DataFault}
use Rattle.value_text.proofs.OneAnswer as data_answer
use Rattle.cost_free.specs.declared.task.Meter.{Meter}
use Rattle.cost_free.specs.declared.task.Meter.TheVariants.{Ticks, Cells, Work}
use Rattle.annot_types.specs.Program.{Program}
use Rattle.annot_types.specs.Certificate.{Certificate}
use Rattle.annot_types.specs.Held.{Claim, Bound, NoBound, CallsUnbounded, Line, line}
use Rattle.analysis_report.specs.Lines.{Claims}
use Rattle.analysis_report.specs.Floors.{Floors, FloorOf, IsFloor, rank, Leaves}
use Rattle.analysis_report.proofs.Limits.{moves_one}
use Rattle.refusal_text.specs.declared.plain.Which.TheVariants as w
use Rattle.refusals.specs.Ending.{Ending, Done, Stopped, HeapFull, BadData, Overflows, AtPoint}
use Rattle.refusals.specs.Line.{no_names}
use Rattle.raml_promise.specs.Outside.{Side, Sound, Complete, Store}
use Rattle.raml_promise.specs.Steps.{Answer}
use Rattle.raml_promise.specs.Call.{Placed, IsNamed, OfFunction, DataRefuses, OfArguments, OfCall, Limits, Finishes, Stops, Fills, Ends, Runs, PointRefuses, AreFloors, OfFloors}
use Rattle.raml_promise.proofs.Alike.{alike_same, Same, same_reports, steps_same}
use Rattle.raml_promise.proofs.OneSource.{file_same}

-- ---- functions and arguments

module _ (P : Prog) (name : Text) where
  none_or_named : (f : Placed) → place_of name P ≡ None → IsNamed P name f → ⊥
  none_or_named f none is = let p = is.place in absurd (cc)

  one_named : (f g : Placed) → IsNamed P name f → IsNamed P name g → f ≡ g
  one_named f g h k =
      let p = h.place in
      let q = k.place in
      let place : f.0 ≡ g.0 = cc in
      let a = h.there in
      let b = k.there in
      let fun : f.1 ≡ g.1 = cc in
      λ i. (place i, fun i)

  pub function_same : (Q T : Placed → Answer → Type 0) → ((f : Placed) → (a b : Answer) → Q f a → T f b → Same a b) → (a b : Answer) → OfFunction P name Q a → OfFunction P name T b → Same a b
  function_same Q T rest =
      steps_same no_names no_names _ _ (IsNamed P name) (IsNamed P name) Q T
      (record {
        refusals = λ e f r s. alike_same e f (r.0 ∙ sym s.0);
        not_left = λ e f r is. none_or_named f r.1 is;
        not_right = λ f e is r. none_or_named f r.1 is;
        one = one_named;
      })
      (λ f x y. rest f)

module _ (bytes : List ℕ) (fun : Function) where
  one_answer : (r s : Result (List Value) DataFault) → Answers bytes (types_of fun) r → Answers bytes (types_of fun) s → r ≡ s
  one_answer r s h k = data_answer.one_answer bytes (types_of fun) r s h k

  one_fault : (x y : DataFault) → Answers bytes (types_of fun) (Err x) → Answers bytes (types_of fun) (Err y) → x ≡ y
  one_fault x y h k = let s = one_answer (Err x) (Err y) h k in cc

  one_list : (x y : List Value) → Answers bytes (types_of fun) (Ok x) → Answers bytes (types_of fun) (Ok y) → x ≡ y
  one_list x y h k = let s = one_answer (Ok x) (Ok y) h k in cc

  fault_or_list : (x : DataFault) (y : List Value) → Answers bytes (types_of fun) (Err x) → Answers bytes (types_of fun) (Ok y) → ⊥
  fault_or_list x y h k = let s = one_answer (Err x) (Ok y) h k in absurd (cc)

  data_refusals : (x y : Ending) → DataRefuses bytes fun x → DataRefuses bytes fun y → x ≡ y
  data_refusals (BadData x) (BadData y) h k = ap BadData (one_fault x y h k)
  data_refusals (BadData x) y h k = absurd k
  data_refusals x y h k = absurd h

  refused_or_list : (x : Ending) (y : List Value) → DataRefuses bytes fun x → Answers bytes (types_of fun) (Ok y) → ⊥
  refused_or_list (BadData x) y h k = fault_or_list x y h k
  refused_or_list x y h k = absurd h

  pub arguments_same : (Q T : List Value → Answer → Type 0) → ((args : List Value) (a b : Answer) → Q args a → T args b → Same a b) → (a b : Answer) →
      OfArguments bytes fun Q a → OfArguments bytes fun T b → Same a b
  arguments_same Q T rest =
      steps_same no_names no_names (DataRefuses bytes fun) (DataRefuses bytes fun) _ _ Q T
      (record {
        refusals = λ x y r s. alike_same x y (data_refusals x y r s);
        not_left = refused_or_list;
        not_right = λ args x is h. refused_or_list x args h is;
        one = one_list;
      })
      (λ args x y. rest args)

pub call_same : (store : Store) (P : Prog) (name file : Text) (Q T : Placed → List Value → Answer → Type 0) →
    ((f : Placed) (args : List Value) (a b : Answer) → Q f args a → T f args b → Same a b) → (a b : Answer) →
    OfCall Complete store P name file Q a → OfCall Sound store P name file T b → Same a b
call_same store P name file Q T rest =
    function_same P name _ _
    (λ f. file_same store w.Data file (λ bytes. OfArguments bytes f.1 (Q f)) (λ bytes. OfArguments bytes f.1 (T f)) (λ bytes. arguments_same bytes f.1 (Q f) (T f) (rest f)))

-- ---- bounds

module _ (N : Program) (c : Certificate) (f : ℕ) (args : List Value) where
  one_claim : (meter : Meter) (x y : Claim) → Claims N c f meter x → Claims N c f meter y → x ≡ y
  one_claim meter x y h k =
      let s : line f meter x ∷ [] ≡ line f meter y ∷ [] = sym h ∙ k in
      let l : line f meter x ≡ line f meter y = cc in ap (λ (l : Line). l.claim) l

  one_value : (claim : Claim) (x y : Option ℕ) → FloorOf claim args x → FloorOf claim args y → x ≡ y
  one_value (Bound den terms) x y h k = h.1 ∙ sym k.1
  one_value NoBound x y h k = h ∙ sym k
  one_value (CallsUnbounded g) x y h k = h ∙ sym k

  one_floor : (meter : Meter) (x y : Option ℕ) → IsFloor N c f args meter x → IsFloor N c f args meter y → x ≡ y
  one_floor meter x y h k = one_value h.claim x y h.is (subst (λ z. FloorOf z args y) (one_claim meter k.claim h.claim k.claims h.claims) k.is)

  leaves_or_fits : (meter : Meter) (x : Option ℕ) → Leaves N c f args meter → IsFloor N c f args meter x → ⊥
  leaves_or_fits meter x h k =
      let fits = subst (λ z. FloorOf z args x) (one_claim meter k.claim (Bound h.den h.terms) k.claims h.claims) k.is in
      absurd (omega (arith, fits.0, h.leaves))

  meter_by : (x y : Meter) → rank x ≡ rank y → x ≡ y
  meter_by Ticks Ticks h = refl
  meter_by Ticks Cells h = absurd (omega (arith, h))
  meter_by Ticks Work h = absurd (omega (arith, h))
  meter_by Cells Ticks h = absurd (omega (arith, h))
  meter_by Cells Cells h = refl
  meter_by Cells Work h = absurd (omega (arith, h))
  meter_by Work Ticks h = absurd (omega (arith, h))
  meter_by Work Cells h = absurd (omega (arith, h))
  meter_by Work Work h = refl

  one_leaves : (x y : Meter) → Leaves N c f args x → Leaves N c f args y → x ≡ y
  one_leaves x y h k = meter_by x y (equal (λ less. let b = k.before x less in leaves_or_fits x b.0 h b.1) (λ less. let b = h.before y less in leaves_or_fits y b.0 k b.1))
    where
      equal : (rank x < rank y → ⊥) → (rank y < rank x → ⊥) → rank x ≡ rank y
      equal a b = omega (arith, a, b)

module _ (P : Prog) (N : Program) (c : Certificate) (f : Placed) (args : List Value) where
  point_refusals : (x y : Ending) → PointRefuses N c f args x → PointRefuses N c f args y → x ≡ y
  point_refusals (Overflows (AtPoint x)) (Overflows (AtPoint y)) h k = ap (λ m. Overflows (AtPoint m)) (one_leaves N c f.0 args x y h k)
  point_refusals (Overflows (AtPoint x)) y h k = absurd k
  point_refusals x y h k = absurd h

  refused_or_floors : (x : Ending) (floors : Floors) → PointRefuses N c f args x → ((meter : Meter) → IsFloor N c f.0 args meter (floors meter)) → ⊥
  refused_or_floors (Overflows (AtPoint meter)) floors h are = leaves_or_fits N c f.0 args meter (floors meter) h (are meter)
  refused_or_floors x floors h are = absurd h

  pub floors_same : (Q T : Floors → Answer → Type 0) → ((floors : Floors) (a b : Answer) → Q floors a → T floors b → Same a b) → (a b : Answer) →
      OfFloors Complete P N c f args Q a → OfFloors Sound P N c f args T b → Same a b
  floors_same Q T rest =
      steps_same no_names no_names (PointRefuses N c f args) (PointRefuses N c f args) (AreFloors Complete P N c f args) (AreFloors Sound P N c f args) Q T
      (record {
        refusals = λ x y r s. alike_same x y (point_refusals x y r s);
        not_left = λ x floors r h. refused_or_floors x floors r h.are;
        not_right = λ floors x h r. refused_or_floors x floors r h.are;
        one = λ x y h k. λ i meter. one_floor N c f.0 args meter (x meter) (y meter) (h.are meter) (k.are meter) i;
      })
      (λ floors x y. rest floors)

-- ---- runs

module _ (P : Prog) (f : Placed) (args : List Value) (limits : Limits) where
  -- after more instructions a machine that asks for one cell too many has taken it
  overfull : (made m : ℕ) → (at P f.0 args made).cells ≡ limits.cells → TakesCell (next_of (bodies_of P) (at P f.0 args made).at) → made < m → (at P f.0 args m).cells ≤ limits.cells → ⊥
  overfull made m all takes more few =
      let code = bodies_of P in
      let begun = start f.0 args in
      let one = after_add code made 1 begun in
      let next : (at P f.0 args (made + 1)).cells ≡ (at P f.0 args made).cells + (move code (at P f.0 args made).at).cells = ap (λ (s : State). s.cells) one in
      let grows = later_grows code (made + 1) m begun (omega (arith, more)) in
      absurd (omega (arith, next, moves_one code (at P f.0 args made).at takes, all, grows.cells, few))

  -- a machine that has halted is the same after all the steps
  halts_within : (made : ℕ) (v : Value) → made ≤ limits.steps → (at P f.0 args made).at ≡ Halted v → at P f.0 args limits.steps ≡ at P f.0 args made
  halts_within made v few h = stays (bodies_of P) made limits.steps (start f.0 args) v few h

  module _ {x y : Side} (t u : Text) where
    finishes_or_stops : Finishes x P f args limits t → Stops y P f args limits u → ⊥
    finishes_or_stops h k =
        let same = halts_within h.made h.value h.within h.halted in
        subst IsGoing (ap (λ (s : State). s.at) same ∙ h.halted) k.going

    finishes_or_fills : Finishes x P f args limits t → Fills y P f args limits u → ⊥
    finishes_or_fills h k =
        let same = halts_within h.made h.value h.within h.halted in
        overfull k.made limits.steps k.all k.takes k.fewer (subst (λ (s : State). s.cells ≤ limits.cells) (sym same) h.few_cells)

    stops_or_fills : Stops x P f args limits t → Fills y P f args limits u → ⊥
    stops_or_fills h k = overfull k.made limits.steps k.all k.takes k.fewer h.few_cells

  ends_same : (t u : Text) (x y : Ending) → Ends Complete P f args limits t x → Ends Sound P f args limits u y → x ≡ y
  ends_same t u Done Done h k = refl
  ends_same t u Done Stopped h k = absurd (finishes_or_stops t u h k)
  ends_same t u Done HeapFull h k = absurd (finishes_or_fills t u h k)
  ends_same t u Stopped Done h k = absurd (finishes_or_stops u t k h)
  ends_same t u Stopped Stopped h k = refl
  ends_same t u Stopped HeapFull h k = absurd (stops_or_fills t u h k)
  ends_same t u HeapFull Done h k = absurd (finishes_or_fills u t k h)
  ends_same t u HeapFull Stopped h k = absurd (stops_or_fills u t k h)
  ends_same t u HeapFull HeapFull h k = refl
  ends_same t u Done y h k = absurd k
  ends_same t u Stopped y h k = absurd k
  ends_same t u HeapFull y h k = absurd k
  ends_same t u x y h k = absurd h

  pub runs_same : (front behind before after : Text) (a b : Answer) → Runs Complete P f args limits front behind a → Runs Sound P f args limits before after b → Same a b
  runs_same front behind before after a b h k =
      same_reports a b h.whole k.whole h.ending k.ending h.is k.is (alike_same h.ending k.ending (ends_same h.text k.text h.ending k.ending h.ends k.ends))
