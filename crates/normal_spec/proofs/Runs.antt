-- Runs of normal forms beside those of the source.
use Rattle.std.proofs.Common.{◌≡◌, ◌≤◌, ◌<◌, ◌+◌, ℕ, zero, suc, List, [], ◌∷◌, map, length, Bool, true, false, cond, Option, Some, None, refl, sym, ap, subst, ◌∙◌, arith}
use Rattle.std.proofs.lemmas.Bool.{eqb-true}
use Rattle.std.proofs.lemmas.Option.{slice_get-map, slice_get_past}
use Rattle.std.specs.Prelude.{pos, nat_eq, slice_get, ◌||◌}
use Rattle.std.specs.List.{Contains}
use Rattle.std.specs.Option.{option_map}
use Rattle.std.specs.Str.{bytes_eq}
use Rattle.std.specs.Cmp.Lexicographic.{bytes_decides}
use Rattle.raml_syntax.specs.Tree.{Text, Type', Parameter, Function, Prog}
use Rattle.raml_syntax.specs.Value.{Value, Number}
use Rattle.raml_syntax.specs.Eval.{Run, cut, Env, look, bind_all, names_of, find, enter, Calls, walk, calls_at, run_of}
use Rattle.raml_syntax.specs.Types.{Differ}
use Rattle.raml_syntax.specs.Place.{place_of}
use Rattle.raml_syntax.proofs.Places.{functions_have_places}
use Rattle.normal_spec.specs.Norm as n
use Rattle.normal_spec.specs.Norm.{carries, NormFun, NormProg}
use Rattle.normal_spec.specs.Run.{NormEnv, value_at, bind_norm, spend, NormCalls, walk_norm, less_one, enter_norm, norm_calls_at, run_norm}
use Rattle.normal_spec.specs.One.{Scope, number_of, bound, place_or, one, scope_of, numbered, body_of}
use Rattle.normal_spec.specs.Two.{among, copy_of, own, norm_fun, norm}
use Rattle.normal_spec.specs.Laws.{Ahead}
use Rattle.normal_spec.proofs.Ahead.{run_is, walk_carries, ahead_same, ahead_is, ahead_node}
use Rattle.normal_spec.proofs.StepOne.{other_number, kept_same, value_older, Stands, stands_on, stands_bound, walk_ahead}
use Rattle.normal_spec.proofs.Leveled.{Low, levels_carries, levels_one}
use Rattle.normal_spec.proofs.Weights.{AllLow}
use Rattle.normal_spec.proofs.StepTwo.{Agrees, around_walks, two_walks}

abbrev zero_value : Value
zero_value = Number (pos 0)

abbrev names : List Parameter → List Text
names ps = map (λ (p : Parameter). p.name) ps

abbrev numbers : List Parameter → ℕ → List ℕ
numbers ps k = map (λ (p : ℕ × Type'). p.0) (numbered ps k)

-- what is bound is not there before
record Free (ps : List Parameter) (k : ℕ) (env : Env) (f : NormEnv) : Type 0 where
  name : (x : Text) → Contains (names ps) x → look x env ≡ zero_value
  number : (x : ℕ) → k ≤ x → value_at x f ≡ zero_value

contains_later : (x y : Text) (xs : List Text) → Contains xs x → Contains (y ∷ xs) x
contains_later x y xs h = (suc h.0, omega (arith, h.1), h.2)

contains_first : (x : Text) (xs : List Text) → Contains (x ∷ xs) x
contains_first x xs = (zero, omega arith, refl)

stands_all : (ps : List Parameter) (k : ℕ) (S : Scope) (env : Env) (f : NormEnv) → Free ps k env f → Stands S k env f → Stands (scope_of ps k S) (k + length ps) env f
stands_all [] k S env f free st = stands_on S k (k + 0) env f f (omega arith) (kept_same k f) st
stands_all (p ∷ ps) k S env f free st =
    stands_on _ (k + 1 + length ps) (k + length (p ∷ ps)) env f f (omega arith) (kept_same _ f)
    (stands_all ps (k + 1) (bound p.name k p.type S) env f
    (record { name = λ x h. free.name x (contains_later x p.name (names ps) h); number = λ x le. free.number x (omega arith) })
    (record { agree = λ y. agree_by y (bytes_eq y p.name) refl; low = λ y. low_by y (bytes_eq y p.name) }))
  where
    agree_by : (y : Text) (b : Bool) → bytes_eq y p.name ≡ b → value_at (cond b k (number_of y S)) f ≡ look y env
    agree_by y true q = free.number k (omega arith) ∙ sym (free.name y (subst (Contains (names (p ∷ ps))) (sym ((bytes_decides y p.name).0 q)) (contains_first p.name (names ps))))
    agree_by y false q = st.agree y

    low_by : (y : Text) (b : Bool) → cond b k (number_of y S) < k + 1
    low_by y true = omega arith
    low_by y false = let low = st.low y in omega arith

stands_entry : (ps : List Parameter) (vs : List Value) (k : ℕ) (S : Scope) (env : Env) (f : NormEnv) → Differ (names ps) → Free ps k env f → Stands S k env f → Stands (scope_of ps k S) (k + length ps) (bind_all env (names ps) vs) (bind_norm f (numbers ps k) vs)
stands_entry [] vs k S env f differ free st = stands_on S k (k + 0) env f f (omega arith) (kept_same k f) st
stands_entry (p ∷ ps) [] k S env f differ free st = stands_all (p ∷ ps) k S env f free st
stands_entry (p ∷ ps) (v ∷ vs) k S env f differ free st =
    stands_on _ (k + 1 + length ps) (k + length (p ∷ ps)) _ _ _ (omega arith) (kept_same _ _)
    (stands_entry ps vs (k + 1) (bound p.name k p.type S) ((p.name, v) ∷ env) ((k, v) ∷ f) differ.1
    (record {
      name = λ x h. other x h (bytes_eq x p.name) refl;
      number = λ x le. value_older x k v f (λ q. omega arith) ∙ free.number x (omega arith);
    })
    (stands_bound p.name p.type v S k (k + 1) env f (omega arith) st))
  where
    other : (x : Text) → Contains (names ps) x → (b : Bool) → bytes_eq x p.name ≡ b → cond b v (look x env) ≡ zero_value
    other x h true q = absurd (differ.0 (subst (Contains (names ps)) ((bytes_decides x p.name).0 q) h))
    other x h false q = free.name x (contains_later x p.name (names ps) h)

-- parameters stand for themselves
below_own : (ps : List Parameter) (k j : ℕ) → k + length ps ≤ j → AllLow j (own (numbered ps k))
below_own [] k j le = tt
below_own (p ∷ ps) k j le = (omega arith, below_own ps (k + 1) j (omega arith))

absent_number : (ps : List Parameter) (k x : ℕ) → x < k → among x (numbers ps k) ≡ false
absent_number [] k x lt = refl
absent_number (p ∷ ps) k x lt = ap (λ b. b || among x (numbers ps (k + 1))) (other_number x k (λ q. omega arith)) ∙ absent_number ps (k + 1) x (omega arith)

pub value_bind : (xs : List ℕ) (vs : List Value) (x : ℕ) (f : NormEnv) → among x xs ≡ false → value_at x (bind_norm f xs vs) ≡ value_at x f
value_bind [] vs x f h = refl
value_bind (y ∷ ys) [] x f h = refl
value_bind (y ∷ ys) (v ∷ vs) x f h = by (value_bind ys vs x ((y, v) ∷ f)) (nat_eq x y) refl h
  where
    by : (among x ys ≡ false → value_at x (bind_norm ((y, v) ∷ f) ys vs) ≡ value_at x ((y, v) ∷ f)) → (b : Bool) → nat_eq x y ≡ b → (b || among x ys) ≡ false → value_at x (bind_norm ((y, v) ∷ f) ys vs) ≡ value_at x f
    by rest true q h = absurd (cc)
    by rest false q h = rest h ∙ ap (λ c. cond c v (value_at x f)) q

-- its copy is itself, or it is no parameter and has none
own_cases : (ps : List Parameter) (k x : ℕ) → (b : Bool) → among x (numbers ps k) ≡ b → copy_of x (own (numbered ps k)) ≡ cond b x 0
own_cases [] k x true h = absurd (cc)
own_cases [] k x false h = refl
own_cases (p ∷ ps) k x b h = by (own_cases ps (k + 1) x b) (nat_eq x k) refl h
  where
    by : (among x (numbers ps (k + 1)) ≡ b → copy_of x (own (numbered ps (k + 1))) ≡ cond b x 0) → (c : Bool) → nat_eq x k ≡ c → (c || among x (numbers ps (k + 1))) ≡ b → cond c k (copy_of x (own (numbered ps (k + 1)))) ≡ cond b x 0
    by rest true q h = sym (eqb-true x k q) ∙ ap (λ d. cond d x 0) h
    by rest false q h = rest h

copy_low : (ps : List Parameter) (k j x : ℕ) → 0 < j → k + length ps ≤ j → copy_of x (own (numbered ps k)) < j
copy_low [] k j x p le = p
copy_low (q ∷ ps) k j x p le = by (nat_eq x k) (copy_low ps (k + 1) j x p (omega arith))
  where
    by : (c : Bool) → copy_of x (own (numbered ps (k + 1))) < j → cond c k (copy_of x (own (numbered ps (k + 1)))) < j
    by true h = omega arith
    by false h = h

own_agrees : (o : n.Norm) (ps : List Parameter) (vs : List Value) → Agrees o (own (numbered ps 1)) (length ps + 1) (bind_norm [] (numbers ps 1) vs) (bind_norm [] (numbers ps 1) vs)
own_agrees o ps vs = record { at = λ y h. record { value = by y (among y (numbers ps 1)) refl; low = copy_low ps 1 (length ps + 1) y (omega arith) (omega arith) } }
  where
    f : NormEnv
    f = bind_norm [] (numbers ps 1) vs

    by : (y : ℕ) (b : Bool) → among y (numbers ps 1) ≡ b → value_at (copy_of y (own (numbered ps 1))) (bind_norm [] (numbers ps 1) vs) ≡ value_at y (bind_norm [] (numbers ps 1) vs)
    by y true q = ap (λ z. value_at z (bind_norm [] (numbers ps 1) vs)) (own_cases ps 1 y true q)
    by y false q =
        ap (λ z. value_at z (bind_norm [] (numbers ps 1) vs)) (own_cases ps 1 y false q)
        ∙ value_bind (numbers ps 1) vs 0 [] (absent_number ps 1 0 (omega arith))
        ∙ sym (value_bind (numbers ps 1) vs y [] q)

pub low_entry : (ps : List Parameter) (k : ℕ) (S : Scope) → Low S k → Low (scope_of ps k S) (k + length ps)
low_entry [] k S h = record { at = λ x. omega (arith, h.at x) }
low_entry (p ∷ ps) k S h =
    let rest = low_entry ps (k + 1) (bound p.name k p.type S) (record { at = λ y. by y (bytes_eq y p.name) }) in
    record { at = λ x. omega (arith, rest.at x) }
  where
    by : (y : Text) (b : Bool) → cond b k (number_of y S) < k + 1
    by y true = omega arith
    by y false = let low = h.at y in omega arith

module _ (P : Prog) where
  -- a body in step two, in step one, and in the source
  body_two : (d : NormCalls) (g : Function) (vs : List Value) → walk_norm d (norm_fun P g).body (bind_norm [] (numbers g.params 1) vs) ≡ walk_norm d (body_of P g) (bind_norm [] (numbers g.params 1) vs)
  body_two d g vs =
      let f = bind_norm [] (numbers g.params 1) vs in
      let j = length g.params + 1 in
      let low : Low (scope_of g.params 1 []) (1 + length g.params) = low_entry g.params 1 [] (record { at = λ x. omega arith }) in
      around_walks d (body_of P g) (two_walks d (body_of P g)) j (own (numbered g.params 1)) j f f
      (levels_carries j 1 (one P (Some g.result) (scope_of g.params 1 []) g.body j) (levels_one P g.body (Some g.result) (scope_of g.params 1 []) j (record { at = λ x. omega (arith, low.at x) })))
      (below_own g.params 1 j (omega arith)) (own_agrees (body_of P g) g.params vs)

  body_is : (d : NormCalls) (g : Function) (vs : List Value) → walk_norm d (norm_fun P g).body (bind_norm [] (numbers g.params 1) vs) ≡ spend 1 (walk_norm d (one P (Some g.result) (scope_of g.params 1 []) g.body (length g.params + 1)) (bind_norm [] (numbers g.params 1) vs))
  body_is d g vs = body_two d g vs ∙ walk_carries d 1 (one P (Some g.result) (scope_of g.params 1 []) g.body (length g.params + 1)) (bind_norm [] (numbers g.params 1) vs)

  abbrev Callee : Calls → NormCalls → Type 0
  Callee c d = (f : Text) (vs : List Value) → Ahead 0 (c f vs) (d (place_or (length P) (place_of f P)) vs)

  body_ahead : (c : Calls) (d : NormCalls) → Callee c d → (g : Function) (vs : List Value) → Differ (names_of g) → Ahead 0 (walk c g.body (bind_all [] (names_of g) vs)) (walk_norm d (one P (Some g.result) (scope_of g.params 1 []) g.body (length g.params + 1)) (bind_norm [] (numbers g.params 1) vs))
  body_ahead c d calls g vs differ =
      walk_ahead P c d calls g.body (Some g.result) (scope_of g.params 1 []) (bind_all [] (names_of g) vs) (length g.params + 1) (bind_norm [] (numbers g.params 1) vs)
      (stands_on _ (1 + length g.params) (length g.params + 1) _ _ _ (omega arith) (kept_same _ _)
      (stands_entry g.params vs 1 [] [] [] differ (record { name = λ x h. refl; number = λ x le. refl }) (record { agree = λ x. refl; low = λ x. omega arith })))

  less_spend : (r : Run Value) → less_one (spend 1 r) ≡ r
  less_spend r = run_is _ _ _ _ _ _ _ refl refl (omega arith)

  enter_ahead : (c : Calls) (d : NormCalls) → Callee c d → (vs : List Value) (o : Option Function) → ((g : Function) → o ≡ Some g → Differ (names_of g)) → Ahead 0 (enter (walk c) o vs) (enter_norm (walk_norm d) (option_map (norm_fun P) o) vs)
  enter_ahead c d calls vs None differ = ahead_same cut
  enter_ahead c d calls vs (Some g) differ =
      ahead_is 0 _ _ _ (ap less_one (body_is d g vs) ∙ less_spend _) (body_ahead c d calls g vs (differ g refl))

  module _ (differ : (k : ℕ) (g : Function) → slice_get P k ≡ Some g → Differ (names_of g)) where
    find_place : (f : Text) → (find f P ≡ slice_get P (place_or (length P) (place_of f P))) × ((g : Function) → find f P ≡ Some g → Differ (names_of g))
    find_place f = by (place_of f P) refl
      where
        by : (o : Option ℕ) → place_of f P ≡ o → (find f P ≡ slice_get P (place_or (length P) o)) × ((g : Function) → find f P ≡ Some g → Differ (names_of g))
        by None q =
            let none = (functions_have_places P).absent f q in
            (none ∙ sym (slice_get_past P (length P) (omega arith)), λ g e. absurd (cc))
        by (Some k) q =
            let h = (functions_have_places P).placed f k q in
            (h.3 ∙ sym h.1, λ g e. let same : h.0 ≡ g = cc in differ k g (h.1 ∙ ap Some same))

    calls_ahead : (m : ℕ) → Callee (calls_at P m) (norm_calls_at (norm P) m)
    calls_ahead zero f vs = ahead_same cut
    calls_ahead (suc m) f vs =
        let h = find_place f in
        let k = place_or (length P) (place_of f P) in
        let there : slice_get (norm P) k ≡ option_map (norm_fun P) (find f P) = slice_get-map (norm_fun P) P k ∙ ap (option_map (norm_fun P)) (sym h.0) in
        ahead_is 0 _ _ _ (ap (λ o. enter_norm (walk_norm (norm_calls_at (norm P) m)) o vs) there)
        (enter_ahead (calls_at P m) (norm_calls_at (norm P) m) (calls_ahead m) vs (find f P) h.1)

    pub runs_ahead : (k m : ℕ) (g : Function) (vs : List Value) → slice_get P k ≡ Some g → Ahead 0 (run_of P g vs m) (run_norm (norm P) (norm_fun P g) vs m)
    runs_ahead k m g vs e =
        ahead_is 0 _ _ _ (body_is (norm_calls_at (norm P) m) g vs) (ahead_node 0 _ _ (body_ahead (calls_at P m) (norm_calls_at (norm P) m) (calls_ahead m) g vs (differ k g e)))
