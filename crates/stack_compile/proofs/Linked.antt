-- Calls, whole runs, and the law.
use Rattle.std.proofs.Common.{◌≡◌, ℕ, zero, suc, ◌+◌, ◌*◌, ◌<◌, ◌≤◌, List, [], ◌∷◌, length, Option, Some, None, refl, sym, ap, ◌∙◌, subst, ⊎_elim, arith}
use Rattle.std.specs.Prelude.{slice_get, option_map, unwrap_or}
use Rattle.std.proofs.lemmas.Bool.{cases_lt}
use Rattle.std.proofs.lemmas.List.{append-nil, length-map}
use Rattle.std.proofs.lemmas.Option.{slice_get-map}
use Rattle.raml_syntax.specs.Tree.{Text, Parameter, Function, Prog}
use Rattle.raml_syntax.specs.Value.{Value}
use Rattle.raml_syntax.specs.Eval.{Run, walk, find, names_of, bind_all, enter, calls_at, eval, run_of}
use Rattle.raml_syntax.specs.Place.{place_of}
use Rattle.raml_syntax.specs.Default.{NoDefault, Enters, CallMeetsNone}
use Rattle.raml_syntax.proofs.Keep.{typed_runs_keep}
use Rattle.raml_syntax.proofs.Places.{functions_have_places}
use Rattle.stack_compile.specs.Code.{seq, one, fun_of, code_of, Body, body_of, bodies_of}
use Rattle.stack_compile.specs.Machine.{Config, Going, Halted, Frame, goes, act, fetch, fetch_in, left, popped, entered, State, start}
use Rattle.stack_compile.specs.Ready.{HasArguments, Ready}
use Rattle.stack_compile.specs.Laws.{at, IsGoing, Gives, Halts, Linked, MachineIsLinked}
use Rattle.stack_compile.specs.declared.instr.Instr.TheVariants as i
use Rattle.stack_compile.proofs.Stands.{Stands, stands_front, stands_back, stands_as, stands_all, bind_names, bind_values, push_all, popped_all, left_all, length_pushed}
use Rattle.stack_compile.proofs.After.{state, stays, Grows, after_grows, later_grows}
use Rattle.stack_compile.proofs.Follows.{Follows, Lands, comes_none, comes_one, follows_node, follows_enter, follows_last}
use Rattle.stack_compile.proofs.Walk.{CallsFollow, walk_follows}

-- where evaluation finds a function, the machine finds it too
found : (P : Prog) (f : Text) (g : Function) → find f P ≡ Some g → slice_get P (fun_of f P).0 ≡ Some g
found P f g e = by (place_of f P) refl
  where
    by : (o : Option ℕ) → place_of f P ≡ o → slice_get P (unwrap_or o 0) ≡ Some g
    by None q = absurd (cc (sym e ∙ (functions_have_places P).absent f q))
    by (Some k) q =
        let h = (functions_have_places P).placed f k q in
        h.1 ∙ sym h.3 ∙ e

module _ (P : Prog) where
  abbrev pub code : List Body
  code = bodies_of P

  -- the place of a function's `Return`
  abbrev pub end_of : Function → ℕ
  end_of g = 0 + length (code_of P (names_of g) g.body 0)

  body_is : (k : ℕ) (g : Function) → slice_get P k ≡ Some g → slice_get code k ≡ Some (body_of P g)
  body_is k g e = slice_get-map (body_of P) P k ∙ ap (option_map (body_of P)) e

  body_stands : (k : ℕ) (g : Function) → slice_get P k ≡ Some g → Stands (fetch code k) 0 (seq (code_of P (names_of g) g.body) (one i.Return) 0) (0 + length (body_of P g).code)
  body_stands k g e =
      stands_as (slice_get (body_of P g).code) (fetch code k) (λ p. sym (ap (λ o. fetch_in o p) (body_is k g e))) 0 _ _ (stands_all (body_of P g).code [])

  body_ends : (k : ℕ) (g : Function) → slice_get P k ≡ Some g → fetch code k (end_of g) ≡ Some i.Return
  body_ends k g e = (stands_back (fetch code k) 0 _ (code_of P (names_of g) g.body 0) _ (body_stands k g e)).0

  same_length : (g : Function) (vs : List Value) → length vs ≡ length g.params → length vs ≡ length (names_of g)
  same_length g vs e = e ∙ sym (length-map g.params (λ (p : Parameter). p.name))

  body_follows : (n : ℕ) → CallsFollow code P (calls_at P n) (CallMeetsNone P n) n → (k : ℕ) (g : Function) (vs st : List Value) (fs : List Frame) → slice_get P k ≡ Some g → length vs ≡ length g.params → NoDefault (calls_at P n) (CallMeetsNone P n) g.body (bind_all [] (names_of g) vs) → Follows code 0 n (Going k 0 st vs fs) (eval P n (bind_all [] (names_of g) vs) g.body) (λ v. Going k (end_of g) (v ∷ st) vs fs)
  body_follows n calls k g vs st fs e fit none =
      let env = bind_all [] (names_of g) vs in
      let fits = same_length g vs fit in
      let front = stands_front (fetch code k) 0 _ (code_of P (names_of g) g.body 0) _ (body_stands k g e) in
      let named = subst (λ xs. Stands (fetch code k) 0 (code_of P xs g.body 0) (end_of g)) (sym (bind_names [] (names_of g) vs fits)) front in
      let h = walk_follows code P (calls_at P n) (CallMeetsNone P n) n calls k fs g.body env none 0 (end_of g) st named in
      subst (λ ls. Follows code 0 n (Going k 0 st ls fs) (eval P n env g.body) (λ v. Going k (end_of g) (v ∷ st) ls fs)) (bind_values [] (names_of g) vs fits) h

  enter_follows : (n : ℕ) → CallsFollow code P (calls_at P n) (CallMeetsNone P n) n → (g : Text) (vs : List Value) (o : Option Function) → find g P ≡ o → Enters (NoDefault (calls_at P n) (CallMeetsNone P n)) o vs → (f p : ℕ) (st ls : List Value) (fs : List Frame) → fetch code f p ≡ Some (i.Call (fun_of g P)) → Follows code 2 (suc n) (Going f p (push_all vs st) ls fs) (enter (walk (calls_at P n)) o vs) (λ v. Going f (p + 1) (v ∷ st) ls fs)
  enter_follows n calls g vs None e none f p st ls fs here = absurd none
  enter_follows n calls g vs (Some d) e none f p st ls fs here =
      let k = (fun_of g P).0 in
      let there : slice_get P k ≡ Some d = found P g d e in
      let back : Frame = record { fun = f; place = p + 1; locals = ls } in
      let same : length d.params ≡ length vs + 0 = omega (arith, none.0) in
      let args : popped (length d.params) (push_all vs st) [] ≡ vs = ap (λ m. popped m (push_all vs st) []) same ∙ popped_all vs st [] 0 ∙ append-nil vs in
      let rest : left (length d.params) (push_all vs st) ≡ st = ap (λ m. left m (push_all vs st)) same ∙ left_all vs st 0 in
      let has : HasArguments (Some (body_of P d)) (push_all vs st) = omega (arith, none.0, length_pushed vs st) in
      let does : act code (Some (i.Call (fun_of g P))) f p (push_all vs st) ls fs ≡ goes (Going k 0 st vs (back ∷ fs)) =
      ap (λ o. goes (entered o (Going f p (push_all vs st) ls fs) (λ m. Going k 0 (left m (push_all vs st)) (popped m (push_all vs st) []) (back ∷ fs)))) (body_is k d there)
      ∙ (λ j. goes (Going k 0 (rest j) (args j) (back ∷ fs))) in
      let call = comes_one code (i.Call (fun_of g P)) f p (push_all vs st) ls fs 0 0 _ here (subst (λ o. HasArguments o (push_all vs st)) (sym (body_is k d there)) has) does in
      let run = walk (calls_at P n) d.body (bind_all [] (names_of d) vs) in
      follows_enter code 1 n (suc n) _ _ run _ (omega arith) call
      (follows_last code 0 n _ run _ _ (body_follows n calls k d vs st (back ∷ fs) there none.0 none.1) (λ v.
      comes_one code i.Return k (end_of d) (v ∷ st) vs (back ∷ fs) 0 0 _ (body_ends k d there) (omega arith) refl))

  -- a call at limit 0 is cut, where the machine stands at the call's instruction
  calls_follow : (n : ℕ) → CallsFollow code P (calls_at P n) (CallMeetsNone P n) n
  calls_follow zero = record { by = λ g vs none f p st ls fs here. record { steps = 0; there = Going f p (push_all vs st) ls fs; few = omega arith; comes = comes_none code _; lands = (omega arith, tt) } }
  calls_follow (suc n) = record { by = λ g vs none f p st ls fs here. enter_follows n (calls_follow n) g vs (find g P) refl none f p st ls fs here }

  -- a whole run, of a call at the next limit
  run_follows : (n k : ℕ) (g : Function) (args : List Value) → slice_get P k ≡ Some g → Enters (NoDefault (calls_at P n) (CallMeetsNone P n)) (Some g) args → Follows code 0 n (Going k 0 [] args []) (run_of P g args n) Halted
  run_follows n k g args e none =
      follows_node code 1 n _ _ _ (omega arith)
      (follows_last code 0 n _ (eval P n (bind_all [] (names_of g) args) g.body) _ Halted (body_follows n (calls_follow n) k g args [] [] e none.0 none.1) (λ v.
      comes_one code i.Return k (end_of g) (v ∷ []) args [] 0 0 _ (body_ends k g e) (omega arith) refl))

not_going : (c : Config) (v : Value) → c ≡ Halted v → IsGoing c → ⊥
not_going c v e h = subst IsGoing e h

module _ (P : Prog) (f : ℕ) (g : Function) (args : List Value) (there : slice_get P f ≡ Some g) (none : (n : ℕ) → Enters (NoDefault (calls_at P n) (CallMeetsNone P n)) (Some g) args) where
  abbrev first : State
  first = start f args

  abbrev run : ℕ → Run Value
  run n = run_of P g args n

  follow : (n : ℕ) → Follows (bodies_of P) 0 n (Going f 0 [] args []) (run n) Halted
  follow n = run_follows P n f g args there (none n)

  -- where the run of limit n has brought the machine
  came : (n : ℕ) → at P f args (follow n).steps ≡ state (follow n).there (run n).ticks (run n).cells (follow n).steps
  came n =
      let h = follow n in
      let x : 0 + (run n).ticks ≡ (run n).ticks = omega arith in
      let y : 0 + (run n).cells ≡ (run n).cells = omega arith in
      let z : 0 + h.steps ≡ h.steps = omega arith in
      h.comes.is 0 0 0 ∙ (λ i. state h.there (x i) (y i) (z i))

  -- where the run of limit n has a value the machine has halted
  halted_there : (n : ℕ) (w : Value) → (follow n).there ≡ Halted w → (at P f args (follow n).steps).at ≡ Halted w
  halted_there n w e = ap (λ (s : State). s.at) (came n) ∙ e

  -- and after as many instructions or more it is where it has halted
  halted_since : (n m : ℕ) (w : Value) → (follow n).there ≡ Halted w → (follow n).steps ≤ m → at P f args m ≡ at P f args (follow n).steps
  halted_since n m w e le = stays (bodies_of P) (follow n).steps m first w le (halted_there n w e)

  halts : (n : ℕ) (v : Value) → (run n).out ≡ Some v → Halts P f args v (run n)
  halts n v e =
      let h = follow n in
      let halted : h.there ≡ Halted v = subst (λ o. Lands n o Halted h.steps h.there) e h.lands in
      record { count = h.steps; few = omega (arith, h.few); is = came n ∙ ap (λ c. state c (run n).ticks (run n).cells h.steps) halted }

  halts_only : (m : ℕ) (v : Value) → (at P f args m).at ≡ Halted v → (o : Option Value) → (run m).out ≡ o → Lands m o Halted (follow m).steps (follow m).there → Gives P g args v (at P f args m)
  halts_only m v e None out lands =
      let h = follow m in
      let same = stays (bodies_of P) m h.steps first v lands.0 e in
      absurd (not_going _ v (ap (λ (s : State). s.at) (sym (came m) ∙ same) ∙ e) lands.1)
  halts_only m v e (Some w) out lands =
      let h = follow m in
      let same : at P f args m ≡ at P f args h.steps = ⊎_elim (λ lt. sym (stays (bodies_of P) m h.steps first v (omega (arith, lt)) e)) (λ ge. halted_since m m w lands ge) (cases_lt m h.steps) in
      let is = same ∙ came m in
      let one : Halted v ≡ Halted w = sym e ∙ ap (λ (s : State). s.at) same ∙ halted_there m w lands in
      let made : (at P f args m).made ≡ h.steps = ap (λ (s : State). s.made) is in
      record {
        limit = m;
        value = out ∙ cc;
        ticks = ap (λ (s : State). s.ticks) is;
        cells = ap (λ (s : State). s.cells) is;
        few = omega (arith, made, h.few);
      }

  at_most : (m n : ℕ) → m ≤ n → (o : Option Value) → Lands n o Halted (follow n).steps (follow n).there → Grows (at P f args m) (state (follow n).there (run n).ticks (run n).cells (follow n).steps)
  at_most m n le None lands = subst (λ t. Grows (at P f args m) t) (came n) (later_grows (bodies_of P) m (follow n).steps first (omega (arith, le, lands.0)))
  at_most m n le (Some w) lands =
      let h = follow n in
      subst (λ t. Grows (at P f args m) t) (came n)
      (⊎_elim
      (λ lt. later_grows (bodies_of P) m h.steps first (omega (arith, lt)))
      (λ ge. subst (λ s. Grows s (at P f args h.steps)) (sym (halted_since n m w lands ge)) (after_grows (bodies_of P) 0 (at P f args h.steps)))
      (cases_lt m h.steps))

  goes_on : (m : ℕ) → IsGoing (at P f args m).at → (o : Option Value) → Lands (suc m) o Halted (follow (suc m)).steps (follow (suc m)).there → m < 4 * (run (suc m)).work
  goes_on m going None lands = omega (arith, (follow (suc m)).few, lands.0)
  goes_on m going (Some w) lands =
      let h = follow (suc m) in
      ⊎_elim
      (λ lt. omega (arith, lt, h.few))
      (λ ge. absurd (not_going _ w (ap (λ (s : State). s.at) (halted_since (suc m) m w lands ge) ∙ halted_there (suc m) w lands) going))
      (cases_lt m h.steps)

  ready : (m : ℕ) (o : Option Value) → Lands (suc m) o Halted (follow (suc m)).steps (follow (suc m)).there → Ready (bodies_of P) (at P f args m).at
  ready m None lands = (follow (suc m)).comes.ready m (omega (arith, lands.0)) 0 0 0
  ready m (Some w) lands =
      let h = follow (suc m) in
      ⊎_elim
      (λ lt. h.comes.ready m lt 0 0 0)
      (λ ge. subst (λ c. Ready (bodies_of P) c) (sym (ap (λ (s : State). s.at) (halted_since (suc m) m w lands ge) ∙ halted_there (suc m) w lands)) tt)
      (cases_lt m h.steps)

  linked : Linked P f g args
  linked = record {
    halts = halts;
    halts_only = λ m v e. halts_only m v e (run m).out refl (follow m).lands;
    at_most = λ m n le. let h = at_most m n le (run n).out (follow n).lands in (h.ticks, h.cells);
    goes_on = λ m going. goes_on m going (run (suc m)).out (follow (suc m)).lands;
    ready = λ m. ready m (run (suc m)).out (follow (suc m)).lands;
  }

pub machine_is_linked : MachineIsLinked
machine_is_linked P typed fits f g args there types =
    let named = (functions_have_places P).placed g.name f ((functions_have_places P).own typed.functions f g there) in
    let same : find g.name P ≡ Some g = named.3 ∙ sym named.1 ∙ there in
    let keeps = typed_runs_keep P typed fits in
    linked P f g args there (λ n. subst (λ o. Enters (NoDefault (calls_at P n) (CallMeetsNone P n)) o args) same (keeps.runs n g.name g args same types).no_default)
