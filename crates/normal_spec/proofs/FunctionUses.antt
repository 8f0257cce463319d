-- The normal forms of a typed program's functions use their parameters.
use Rattle.std.proofs.Common.{◌≡◌, ◌≤◌, ◌<◌, ◌+◌, ℕ, List, [], ◌∷◌, map, length, Bool, true, false, cond, Option, Some, None, refl, sym, ap, subst, ◌∙◌, arith}
use Rattle.std.proofs.lemmas.Bool.{eqb-true, and_parts, not-true, or_parts}
use Rattle.std.proofs.lemmas.Option.{slice_get-map}
use Rattle.std.specs.Prelude.{nat_eq, slice_get, ◌||◌}
use Rattle.std.specs.Option.{option_map}
use Rattle.raml_syntax.specs.Tree.{Text, Type', Integer, Boolean, PairOf, ListOf, TreeOf, OptionOf, Parameter, Function, Prog}
use Rattle.raml_syntax.specs.Eval.{find as find_function}
use Rattle.raml_syntax.specs.Place.{place_of}
use Rattle.raml_syntax.specs.Node.{AllNodes, NumberFits}
use Rattle.raml_syntax.specs.Types as ty
use Rattle.raml_syntax.specs.Types.{type_at, bind_types, Checking, Checks, Differ, Typed}
use Rattle.raml_syntax.proofs.Places.{functions_have_places}
use Rattle.normal_spec.specs.Norm as n
use Rattle.normal_spec.specs.Norm.{carries, NormFun, NormProg}
use Rattle.normal_spec.specs.One.{Scope, types_in, bound, place_or, one, scope_of, numbered, body_of}
use Rattle.normal_spec.specs.Two.{among, free_in, has, used, around, two, own, norm_fun, norm}
use Rattle.normal_spec.specs.Uses.{Distinct, types_of, times, Uses, IsNormal}
use Rattle.normal_spec.proofs.StepOne.{other_number}
use Rattle.normal_spec.proofs.Leveled.{Low, levels_carries, levels_one}
use Rattle.normal_spec.proofs.Runs.{low_entry}
use Rattle.normal_spec.proofs.TypedOne.{Given, more, AllGiven, OfType, type_carries, Scoped, scoped_bound, one_types}
use Rattle.normal_spec.proofs.Weights.{AllLow}
use Rattle.normal_spec.proofs.StepTwo.{two_grows}
use Rattle.normal_spec.proofs.Counted.{counts_carries, counts_around}
use Rattle.normal_spec.proofs.BoundOnce.{range_join, around_range, numbered_range}
use Rattle.normal_spec.proofs.Linear.{TypedSlots, slots_of, Same, TypedAt, serves, exact_uses, more_low, more_is}

abbrev known : Option Type' → Bool
known None = false
known (Some A) = true

or_case : (a b : Bool) (G : Type 0) → (a ≡ true → G) → (b ≡ true → G) → (a || b) ≡ true → G
or_case true b G f g h = f refl
or_case false b G f g h = g h

known_at : (V : Given) (x y : ℕ) (A : Type') → V x ≡ Some A → nat_eq y x ≡ true → known (V y) ≡ true
known_at V x y A h q = ap (λ z. known (V z)) (eqb-true y x q) ∙ ap known h

known_less : (V : Given) (p y : ℕ) (A : Type') → nat_eq y p ≡ false → known (more V p A y) ≡ true → known (V y) ≡ true
known_less V p y A ne h = sym (ap (λ b. known (cond b (Some A) (V y))) ne) ∙ h

all_known : (V : Given) (xs : List ℕ) (As : List Type') (y : ℕ) → AllGiven V xs As → among y xs ≡ true → known (V y) ≡ true
all_known V [] As y g h = absurd (cc)
all_known V (x ∷ xs) [] y g h = absurd g
all_known V (x ∷ xs) (A ∷ As) y g h = or_case (nat_eq y x) (among y xs) (known (V y) ≡ true) (known_at V x y A g.0) (all_known V xs As y g.1) h

module _ (N : NormProg) where
  -- the free variables of a form with a type are given
  type_free : (e : n.Norm) (V : Given) (T : Type') (y : ℕ) → OfType N V e T → free_in y e ≡ true → known (V y) ≡ true
  type_free (n.Var k x) V T y h f = all_known V (x ∷ []) (T ∷ []) y h f
  type_free (n.Number k i) V T y h f = absurd (cc)
  type_free (n.Truth k b) V T y h f = absurd (cc)
  type_free (n.Nil k) V T y h f = absurd (cc)
  type_free (n.Leaf k) V T y h f = absurd (cc)
  type_free (n.Nothing k) V T y h f = absurd (cc)
  type_free (n.Arith k op x z) V T y h f = all_known V (x ∷ z ∷ []) (Integer ∷ Integer ∷ []) y h.1 f
  type_free (n.Compare k op x z) V T y h f = all_known V (x ∷ z ∷ []) (Integer ∷ Integer ∷ []) y h.1 f
  type_free (n.Not k x) V T y h f = all_known V (x ∷ []) (Boolean ∷ []) y h.1 f
  type_free (n.Pair k x z) V T y h f = all_known V (x ∷ z ∷ []) (h.0 ∷ h.1 ∷ []) y h.3 f
  type_free (n.Cons k x z) V T y h f = all_known V (x ∷ z ∷ []) (h.0 ∷ ListOf h.0 ∷ []) y h.2 f
  type_free (n.Node k x z w) V T y h f = all_known V (x ∷ z ∷ w ∷ []) (h.0 ∷ TreeOf h.0 ∷ TreeOf h.0 ∷ []) y h.2 f
  type_free (n.Just k x) V T y h f = all_known V (x ∷ []) (h.0 ∷ []) y h.2 f
  type_free (n.Call k g xs) V T y h f = all_known V xs (types_of h.0) y h.3 f
  type_free (n.Let k x A a b) V T y h f =
      or_case (free_in y a) _ (known (V y) ≡ true) (type_free a V A y h.0)
      (λ q. known_less V x y A (not-true (nat_eq y x) (and_parts _ _ q).0) (type_free b (more V x A) T y h.1 (and_parts _ _ q).1)) f
  type_free (n.Split k x p q a) V T y h f =
      or_case (nat_eq y x) _ (known (V y) ≡ true) (known_at V x y (PairOf h.0 h.1) h.2)
      (λ s.
      let ne = not-true (nat_eq y p || nat_eq y q) (and_parts _ _ s).0 in
      known_less V p y h.0 (or_parts _ _ ne).0 (known_less (more V p h.0) q y h.1 (or_parts _ _ ne).1 (type_free a (more (more V p h.0) q h.1) T y h.3 (and_parts _ _ s).1))) f
  type_free (n.If k x a b) V T y h f =
      or_case (nat_eq y x) _ (known (V y) ≡ true) (known_at V x y Boolean h.0)
      (or_case (free_in y a) (free_in y b) (known (V y) ≡ true) (type_free a V T y h.1) (type_free b V T y h.2)) f
  type_free (n.CaseList k x a p q b) V T y h f =
      or_case (nat_eq y x) _ (known (V y) ≡ true) (known_at V x y (ListOf h.0) h.1)
      (or_case (free_in y a) _ (known (V y) ≡ true) (type_free a V T y h.2)
      (λ s.
      let ne = not-true (nat_eq y p || nat_eq y q) (and_parts _ _ s).0 in
      known_less V p y h.0 (or_parts _ _ ne).0 (known_less (more V p h.0) q y (ListOf h.0) (or_parts _ _ ne).1 (type_free b (more (more V p h.0) q (ListOf h.0)) T y h.3 (and_parts _ _ s).1)))) f
  type_free (n.CaseTree k x a p q r b) V T y h f =
      let B = TreeOf h.0 in
      or_case (nat_eq y x) _ (known (V y) ≡ true) (known_at V x y B h.1)
      (or_case (free_in y a) _ (known (V y) ≡ true) (type_free a V T y h.2)
      (λ s.
      let ne = not-true (nat_eq y p || (nat_eq y q || nat_eq y r)) (and_parts _ _ s).0 in
      let ne' = (or_parts (nat_eq y p) _ ne).1 in
      known_less V p y h.0 (or_parts _ _ ne).0 (known_less (more V p h.0) q y B (or_parts _ _ ne').0 (known_less (more (more V p h.0) q B) r y B (or_parts _ _ ne').1 (type_free b (more (more (more V p h.0) q B) r B) T y h.3 (and_parts _ _ s).1))))) f
  type_free (n.CaseOption k x a p b) V T y h f =
      or_case (nat_eq y x) _ (known (V y) ≡ true) (known_at V x y (OptionOf h.0) h.1)
      (or_case (free_in y a) _ (known (V y) ≡ true) (type_free a V T y h.2)
      (λ s. known_less V p y h.0 (not-true (nat_eq y p) (and_parts _ _ s).0) (type_free b (more V p h.0) T y h.3 (and_parts _ _ s).1))) f
  type_free (n.Tick k i a) V T y h f = type_free a V T y h f
  type_free (n.Share k x p q a) V T y h f = absurd h
  type_free (n.Drop k x a) V T y h f = absurd h

-- the parameters
abbrev given_all : List Parameter → ℕ → Given → Given
given_all [] k V = V
given_all (p ∷ ps) k V = given_all ps (k + 1) (more V k p.type)

abbrev typed_own : List Parameter → ℕ → TypedSlots
typed_own [] k = []
typed_own (p ∷ ps) k = (k, (k, p.type)) ∷ typed_own ps (k + 1)

own_slots : (ps : List Parameter) (k : ℕ) → slots_of (typed_own ps k) ≡ own (numbered ps k)
own_slots [] k = refl
own_slots (p ∷ ps) k = ap (λ G. (k, k) ∷ G) (own_slots ps (k + 1))

own_same : (ps : List Parameter) (k : ℕ) → Same (numbered ps k) (typed_own ps k)
own_same [] k = record { at = λ w. refl }
own_same (p ∷ ps) k = record { at = λ w. ap (λ z. w (k, p.type) + z) ((own_same ps (k + 1)).at w) }

own_absent : (ps : List Parameter) (k x : ℕ) → x < k → has x (typed_own ps k) ≡ false
own_absent [] k x lt = refl
own_absent (p ∷ ps) k x lt = (λ i. other_number x k (λ q. omega arith) i || own_absent ps (k + 1) x (omega arith) i)

own_distinct : (ps : List Parameter) (k : ℕ) → Distinct (typed_own ps k)
own_distinct [] k = tt
own_distinct (p ∷ ps) k = (own_absent ps (k + 1) k (omega arith), own_distinct ps (k + 1))

numbered_absent : (ps : List Parameter) (k x : ℕ) → x < k → has x (numbered ps k) ≡ false
numbered_absent [] k x lt = refl
numbered_absent (p ∷ ps) k x lt = (λ i. other_number x k (λ q. omega arith) i || numbered_absent ps (k + 1) x (omega arith) i)

numbered_distinct : (ps : List Parameter) (k : ℕ) → Distinct (numbered ps k)
numbered_distinct [] k = tt
numbered_distinct (p ∷ ps) k = (numbered_absent ps (k + 1) k (omega arith), numbered_distinct ps (k + 1))

numbered_low : (ps : List Parameter) (k j : ℕ) → k + length ps ≤ j → AllLow j (numbered ps k)
numbered_low [] k j le = tt
numbered_low (p ∷ ps) k j le = (omega arith, numbered_low ps (k + 1) j (omega arith))

given_low : (ps : List Parameter) (k : ℕ) (V : Given) (y : ℕ) → y < k → given_all ps k V y ≡ V y
given_low [] k V y lt = refl
given_low (p ∷ ps) k V y lt = given_low ps (k + 1) (more V k p.type) y (omega arith) ∙ more_low [] V k k p.type (omega arith) y lt

own_typed : (ps : List Parameter) (k j : ℕ) (V : Given) → k + length ps ≤ j → TypedAt j (given_all ps k V) (typed_own ps k)
own_typed [] k j V le = tt
own_typed (p ∷ ps) k j V le = (omega arith, given_low ps (k + 1) (more V k p.type) k (omega arith) ∙ more_is [] V k p.type, own_typed ps (k + 1) j (more V k p.type) (omega arith))

scoped_all : (N : NormProg) (ps : List Parameter) (k : ℕ) (S : Scope) (V : Given) → Scoped N S k V → Scoped N (scope_of ps k S) (k + length ps) (given_all ps k V)
scoped_all N [] k S V h = record { given = h.given; low = λ x. omega (arith, h.low x) }
scoped_all N (p ∷ ps) k S V h =
    let rest = scoped_all N ps (k + 1) (bound p.name k p.type S) (more V k p.type) (scoped_bound N p.name p.type S k (k + 1) V (omega arith) h) in
    record { given = rest.given; low = λ x. omega (arith, rest.low x) }

types_scope : (ps : List Parameter) (k : ℕ) (S : Scope) → types_in (scope_of ps k S) ≡ bind_types (types_in S) ps
types_scope [] k S = refl
types_scope (p ∷ ps) k S = types_scope ps (k + 1) (bound p.name k p.type S)

-- what is known is a parameter
known_own : (ps : List Parameter) (k : ℕ) (V : Given) (y : ℕ) → known (given_all ps k V y) ≡ true → (known (V y) || has y (typed_own ps k)) ≡ true
known_own [] k V y h = by (known (V y)) h
  where
    by : (b : Bool) → b ≡ true → (b || false) ≡ true
    by true h = refl
    by false h = absurd (cc)
known_own (p ∷ ps) k V y h = by (nat_eq y k) refl (known_own ps (k + 1) (more V k p.type) y h)
  where
    by : (b : Bool) → nat_eq y k ≡ b → (known (cond b (Some p.type) (V y)) || has y (typed_own ps (k + 1))) ≡ true → (known (V y) || (b || has y (typed_own ps (k + 1)))) ≡ true
    by true q r = right (known (V y))
      where
        right : (a : Bool) → (a || true) ≡ true
        right true = refl
        right false = refl
    by false q r = r

pub numbered_types : (ps : List Parameter) (k : ℕ) → map (λ (p : ℕ × Type'). p.1) (numbered ps k) ≡ map (λ (p : Parameter). p.type) ps
numbered_types [] k = refl
numbered_types (p ∷ ps) k = ap (λ As. p.type ∷ As) (numbered_types ps (k + 1))

called : (P : Prog) (f : Text) (g : Function) → find_function f P ≡ Some g → (h : NormFun) × (slice_get (norm P) (place_or (length P) (place_of f P)) ≡ Some h) × (h.result ≡ g.result) × (types_of h ≡ ty.types_of g)
called P f g e = by (place_of f P) refl
  where
    by : (o : Option ℕ) → place_of f P ≡ o → (h : NormFun) × (slice_get (norm P) (place_or (length P) o) ≡ Some h) × (h.result ≡ g.result) × (types_of h ≡ ty.types_of g)
    by None q = let absent = (functions_have_places P).absent f q in absurd (cc)
    by (Some k) q =
        let h = (functions_have_places P).placed f k q in
        let same : h.0 ≡ g = (let a = h.3 in cc) in
        (norm_fun P g, slice_get-map (norm_fun P) P k ∙ ap (option_map (norm_fun P)) (h.1 ∙ ap Some same), refl, numbered_types g.params 1)

pub function_normal : (P : Prog) (g : Function) → AllNodes NumberFits g.body → Checks P (bind_types [] g.params) g.body g.result → IsNormal (norm P) (norm_fun P g)
function_normal P g fit h =
    let N = norm P in
    let ps = g.params in
    let j = length ps + 1 in
    let S = scope_of ps 1 [] in
    let V : Given = given_all ps 1 (λ y. None) in
    let e = one P (Some g.result) S g.body j in
    let scoped0 : Scoped N [] 1 (λ y. None) = record { given = λ x A q. absurd (cc); low = λ x. omega arith } in
    let scoped1 = scoped_all N ps 1 [] (λ y. None) scoped0 in
    let scoped : Scoped N S j V = record { given = scoped1.given; low = λ x. omega (arith, scoped1.low x) } in
    let low : Low S (1 + length ps) = low_entry ps 1 [] (record { at = λ x. omega arith }) in
    let typed : OfType N V (body_of P g) g.result = type_carries N V 1 e g.result (one_types N P (called P) g.body Checking S g.result fit (subst (λ G. ty.HasType P Checking G g.body g.result) (sym (types_scope ps 1 [])) h) j V scoped) in
    let levels = levels_carries j 1 e (levels_one P g.body (Some g.result) S j (record { at = λ x. omega (arith, low.at x) })) in
    record {
      params = numbered_distinct ps 1;
      body = subst (λ G. Uses N (numbered ps 1) (around (body_of P g) (two (body_of P g)) G j).0 g.result) (own_slots ps 1)
          (serves N (body_of P g) (exact_uses N (body_of P g)) j j V (typed_own ps 1) (numbered ps 1) g.result
          levels
          typed
          (record { slots = own_distinct ps 1; typed = own_typed ps 1 j (λ y. None) (omega arith); single = numbered_distinct ps 1; low = numbered_low ps 1 j (omega arith); same = own_same ps 1 })
          (λ y f. known_own ps 1 (λ y. None) y (type_free N (body_of P g) V g.result y typed f)));
      bound_once = λ c.
          let params = numbered_range c ps 1 in
          let body = around_range c (body_of P g) j (own (numbered ps 1)) j levels in
          let whole = range_join c 1 j (around (body_of P g) (two (body_of P g)) (own (numbered ps 1)) j).1 (times c (numbered ps 1)) _ (omega arith) (two_grows (body_of P g) (used (body_of P g) (own (numbered ps 1))) j)
          (record { below = params.below; above = λ h. params.above (omega arith); most = params.most }) body in
          whole.most;
      counted = counts_around (body_of P g) j (own (numbered ps 1)) j levels (counts_carries 1 e (omega arith));
    }
