-- A form that uses a context has the context's variables free, and no others.
use Rattle.std.proofs.Common.{◌≡◌, ℕ, List, [], ◌∷◌, ◌++◌, Bool, true, false, Some, refl, sym, ap, ◌∙◌}
use Rattle.std.proofs.lemmas.Bool.{eqb-true}
use Rattle.std.specs.Prelude.{nat_eq, not, ◌||◌, ◌&&◌}
use Rattle.raml_syntax.specs.Tree.{Type', Integer, Boolean, PairOf, ListOf, TreeOf, OptionOf}
use Rattle.normal_spec.specs.Norm as n
use Rattle.normal_spec.specs.Norm.{NormProg}
use Rattle.normal_spec.specs.Two.{among, free_in, find, has, put, used, unused}
use Rattle.normal_spec.specs.Uses.{Context, AreNew, Distinct, Takes, types_of, parts_of, copies_of, Uses}
use Rattle.normal_spec.proofs.Opened.{as_put}
use Rattle.normal_spec.proofs.Weights.{has_append, has_put, find_has, distinct_append, distinct_put, has_used, has_unused, distinct_used, distinct_unused}

-- where a variable is in the context or not, at the variable itself
pub there : (x y : ℕ) (A : Type') (C : Context) → find x C ≡ Some A → nat_eq y x ≡ true → has y C ≡ true
there x y A C h e = ap (λ z. has z C) (eqb-true y x e) ∙ find_has x A C h

absent : (x y : ℕ) (C : Context) → has x C ≡ false → nat_eq y x ≡ true → has y C ≡ false
absent x y C h e = ap (λ z. has z C) (eqb-true y x e) ∙ h

pub new_apart : (xs : List ℕ) (C : Context) (y : ℕ) → AreNew xs C → has y C ≡ true → among y xs ≡ false
new_apart [] C y h i = refl
new_apart (x ∷ xs) C y h i = by (nat_eq y x) refl (new_apart xs C y h.2 i)
  where
    by : (b : Bool) → nat_eq y x ≡ b → among y xs ≡ false → (b || among y xs) ≡ false
    by true q rest = let w = absent x y C h.0 q in absurd (cc)
    by false q rest = rest

-- tests
take_bool : (e h m : Bool) → (e ≡ true → h ≡ true) → (not e && h) ≡ m → h ≡ (e || m)
take_bool true h m t q = t refl
take_bool false h m t q = q

let_bool : (f h e b : Bool) → (f && h) ≡ f → ((not f && h) || (e || false)) ≡ b → (e ≡ true → h ≡ false) → h ≡ (f || (not e && b))
let_bool true h e b p q r = p
let_bool false h true b p q r = r refl
let_bool false true false b p q r = q
let_bool false false false b p q r = q

if_bool : (e h a b : Bool) → (e ≡ true → h ≡ true) → (not e && h) ≡ a → (not e && h) ≡ b → h ≡ (e || (a || b))
if_bool true h a b t p q = t refl
if_bool false true a b t p q = by a p
  where
    by : (a : Bool) → true ≡ a → true ≡ (a || b)
    by true p = refl
    by false p = absurd (cc)
if_bool false false a b t p q = by a p
  where
    by : (a : Bool) → false ≡ a → false ≡ (a || b)
    by true p = absurd (cc)
    by false p = q

-- n: whether it is one of the new ones
bind_bool : (e n h a : Bool) → (e ≡ true → h ≡ true) → (n ≡ true → h ≡ false) → (n || (not e && h)) ≡ a → h ≡ (e || (not n && a))
bind_bool true n h a t s q = t refl
bind_bool false true h a t s q = s refl
bind_bool false false h a t s q = q

case_bool : (e n h a b : Bool) → (e ≡ true → h ≡ true) → (n ≡ true → h ≡ false) → (not e && h) ≡ a → (n || (not e && h)) ≡ b → h ≡ (e || (a || (not n && b)))
case_bool true n h a b t s p q = t refl
case_bool false true h a b t s p q = by h a (s refl) p
  where
    by : (h a : Bool) → h ≡ false → h ≡ a → h ≡ (a || (not true && b))
    by true a u v = absurd (cc)
    by false true u v = absurd (cc)
    by false false u v = refl
case_bool false false true a b t s p q = by a p
  where
    by : (a : Bool) → true ≡ a → true ≡ (a || b)
    by true p = refl
    by false p = absurd (cc)
case_bool false false false a b t s p q = by a p
  where
    by : (a : Bool) → false ≡ a → false ≡ (a || b)
    by true p = absurd (cc)
    by false p = q

drop_bool : (e h a : Bool) → (e ≡ true → h ≡ true) → (not e && h) ≡ a → h ≡ (e || a)
drop_bool = take_bool

one_of : (a : Bool) → (a || false) ≡ a
one_of true = refl
one_of false = refl

two_of : (a b : Bool) → (a || (b || false)) ≡ (a || b)
two_of true b = refl
two_of false true = refl
two_of false false = refl

three_of : (a b c : Bool) → (a || (b || (c || false))) ≡ (a || (b || c))
three_of true b c = refl
three_of false b c = two_of b c

new_absent : (xs : List ℕ) (C : Context) (y : ℕ) → AreNew xs C → among y xs ≡ true → has y C ≡ false
new_absent xs C y h i = by (has y C) refl
  where
    by : (b : Bool) → has y C ≡ b → b ≡ false
    by true q = let w = new_apart xs C y h q in absurd (cc)
    by false q = refl

pub takes_free : (C : Context) (xs : List ℕ) (As : List Type') → Distinct C → Takes C xs As → (y : ℕ) → has y C ≡ among y xs
takes_free C [] [] d h y = ap (has y) h
takes_free C [] (A ∷ As) d h y = absurd h
takes_free C (x ∷ xs) [] d h y = absurd h
takes_free C (x ∷ xs) (A ∷ As) d h y =
    take_bool (nat_eq y x) (has y C) (among y xs) (there x y A C h.0) (sym (has_put x y [] C d) ∙ takes_free (put x [] C) xs As (distinct_put x [] C d tt (λ z ne q. refl)) h.1 y)

module _ (N : NormProg) where
  pub uses_free : (m : n.Norm) (C : Context) (T : Type') → Distinct C → Uses N C m T → (y : ℕ) → has y C ≡ free_in y m
  uses_free (n.Var k x) C T d h y = takes_free C (x ∷ []) (T ∷ []) d h y
  uses_free (n.Number k i) C T d h y = takes_free C [] [] d h.2 y
  uses_free (n.Truth k b) C T d h y = takes_free C [] [] d h.1 y
  uses_free (n.Nil k) C T d h y = takes_free C [] [] d h.1 y
  uses_free (n.Leaf k) C T d h y = takes_free C [] [] d h.1 y
  uses_free (n.Nothing k) C T d h y = takes_free C [] [] d h.1 y
  uses_free (n.Arith k op x z) C T d h y = takes_free C (x ∷ z ∷ []) (Integer ∷ Integer ∷ []) d h.1 y
  uses_free (n.Compare k op x z) C T d h y = takes_free C (x ∷ z ∷ []) (Integer ∷ Integer ∷ []) d h.1 y
  uses_free (n.Not k x) C T d h y = takes_free C (x ∷ []) (Boolean ∷ []) d h.1 y
  uses_free (n.Pair k x z) C T d h y = takes_free C (x ∷ z ∷ []) (h.0 ∷ h.1 ∷ []) d h.3 y
  uses_free (n.Cons k x z) C T d h y = takes_free C (x ∷ z ∷ []) (h.0 ∷ ListOf h.0 ∷ []) d h.2 y
  uses_free (n.Node k x z w) C T d h y = takes_free C (x ∷ z ∷ w ∷ []) (h.0 ∷ TreeOf h.0 ∷ TreeOf h.0 ∷ []) d h.2 y
  uses_free (n.Just k x) C T d h y = takes_free C (x ∷ []) (h.0 ∷ []) d h.2 y
  uses_free (n.Call k f xs) C T d h y = takes_free C xs (types_of h.0) d h.3 y
  uses_free (n.Let k x A a b) C T d h y =
      let p = sym (has_used a y C) ∙ uses_free a (used a C) A (distinct_used a C d) h.1 y in
      let D = unused a C ++ (x, A) ∷ [] in
      let e : Distinct D = distinct_append (unused a C) ((x, A) ∷ []) (distinct_unused a C d) (refl, tt) (λ z q. away z q) in
      let q = ap (λ z. z || (nat_eq y x || false)) (sym (has_unused a y C)) ∙ sym (has_append y (unused a C) ((x, A) ∷ [])) ∙ uses_free b D T e h.2 y in
      let_bool (free_in y a) (has y C) (nat_eq y x) (free_in y b) p q (absent x y C h.0.0)
    where
      away : (z : ℕ) → has z (unused a C) ≡ true → has z ((x, A) ∷ []) ≡ false
      away z q = by (nat_eq z x) refl
        where
          none : (b c : Bool) → (b && c) ≡ true → c ≡ false → ⊥
          none true c u v = absurd (cc)
          none false c u v = absurd (cc)

          by : (b : Bool) → nat_eq z x ≡ b → (b || false) ≡ false
          by true s = absurd (none (not (free_in z a)) (has z C) (sym (has_unused a z C) ∙ q) (absent x z C h.0.0 s))
          by false s = refl
  uses_free (n.Split k x p q a) C T d h y =
      let H : Context = (p, h.0) ∷ (q, h.1) ∷ [] in
      let i = uses_free a (put x H C) T (distinct_put x H C d ((ap (λ b. b) h.3.1), (refl, tt)) (λ z ne s. new_apart (p ∷ q ∷ []) C z h.3 s)) (as_put N x (p ∷ q ∷ []) parts_of (PairOf h.0 h.1) C h.2 a T h.4) y in
      bind_bool (nat_eq y x) (nat_eq y p || nat_eq y q) (has y C) (free_in y a) (there x y (PairOf h.0 h.1) C h.2)
      (λ s. new_absent (p ∷ q ∷ []) C y h.3 (two_of (nat_eq y p) (nat_eq y q) ∙ s))
      (ap (λ b. b || (not (nat_eq y x) && has y C)) (sym (two_of (nat_eq y p) (nat_eq y q))) ∙ sym (has_put x y H C d) ∙ i)
  uses_free (n.If k x a b) C T d h y =
      let e = distinct_put x [] C d tt (λ z ne s. refl) in
      if_bool (nat_eq y x) (has y C) (free_in y a) (free_in y b) (there x y Boolean C h.0) (sym (has_put x y [] C d) ∙ uses_free a (put x [] C) T e h.1 y) (sym (has_put x y [] C d) ∙ uses_free b (put x [] C) T e h.2 y)
  uses_free (n.CaseList k x a p q b) C T d h y =
      let H : Context = (p, h.0) ∷ (q, ListOf h.0) ∷ [] in
      let e = distinct_put x [] C d tt (λ z ne s. refl) in
      let i = uses_free b (put x H C) T (distinct_put x H C d ((ap (λ b. b) h.2.1), (refl, tt)) (λ z ne s. new_apart (p ∷ q ∷ []) C z h.2 s)) (as_put N x (p ∷ q ∷ []) parts_of (ListOf h.0) C h.1 b T h.4) y in
      case_bool (nat_eq y x) (nat_eq y p || nat_eq y q) (has y C) (free_in y a) (free_in y b) (there x y (ListOf h.0) C h.1)
      (λ s. new_absent (p ∷ q ∷ []) C y h.2 (two_of (nat_eq y p) (nat_eq y q) ∙ s))
      (sym (has_put x y [] C d) ∙ uses_free a (put x [] C) T e h.3 y)
      (ap (λ b. b || (not (nat_eq y x) && has y C)) (sym (two_of (nat_eq y p) (nat_eq y q))) ∙ sym (has_put x y H C d) ∙ i)
  uses_free (n.CaseTree k x a p q r b) C T d h y =
      let H : Context = (p, h.0) ∷ (q, TreeOf h.0) ∷ (r, TreeOf h.0) ∷ [] in
      let e = distinct_put x [] C d tt (λ z ne s. refl) in
      let i = uses_free b (put x H C) T (distinct_put x H C d (h.2.1, (h.2.2.1, (refl, tt))) (λ z ne s. new_apart (p ∷ q ∷ r ∷ []) C z h.2 s)) (as_put N x (p ∷ q ∷ r ∷ []) parts_of (TreeOf h.0) C h.1 b T h.4) y in
      case_bool (nat_eq y x) (nat_eq y p || (nat_eq y q || nat_eq y r)) (has y C) (free_in y a) (free_in y b) (there x y (TreeOf h.0) C h.1)
      (λ s. new_absent (p ∷ q ∷ r ∷ []) C y h.2 (three_of (nat_eq y p) (nat_eq y q) (nat_eq y r) ∙ s))
      (sym (has_put x y [] C d) ∙ uses_free a (put x [] C) T e h.3 y)
      (ap (λ b. b || (not (nat_eq y x) && has y C)) (sym (three_of (nat_eq y p) (nat_eq y q) (nat_eq y r))) ∙ sym (has_put x y H C d) ∙ i)
  uses_free (n.CaseOption k x a w b) C T d h y =
      let H : Context = (w, h.0) ∷ [] in
      let e = distinct_put x [] C d tt (λ z ne s. refl) in
      let i = uses_free b (put x H C) T (distinct_put x H C d (refl, tt) (λ z ne s. new_apart (w ∷ []) C z h.2 s)) (as_put N x (w ∷ []) parts_of (OptionOf h.0) C h.1 b T h.4) y in
      case_bool (nat_eq y x) (nat_eq y w) (has y C) (free_in y a) (free_in y b) (there x y (OptionOf h.0) C h.1)
      (λ s. new_absent (w ∷ []) C y h.2 (one_of (nat_eq y w) ∙ s))
      (sym (has_put x y [] C d) ∙ uses_free a (put x [] C) T e h.3 y)
      (ap (λ b. b || (not (nat_eq y x) && has y C)) (sym (one_of (nat_eq y w))) ∙ sym (has_put x y H C d) ∙ i)
  uses_free (n.Tick k i a) C T d h y = uses_free a C T d h y
  uses_free (n.Share k x p q a) C T d h y =
      let H : Context = (p, h.0) ∷ (q, h.0) ∷ [] in
      let i = uses_free a (put x H C) T (distinct_put x H C d (h.2.1, (refl, tt)) (λ z ne s. new_apart (p ∷ q ∷ []) C z h.2 s)) (as_put N x (p ∷ q ∷ []) copies_of h.0 C h.1 a T h.3) y in
      bind_bool (nat_eq y x) (nat_eq y p || nat_eq y q) (has y C) (free_in y a) (there x y h.0 C h.1)
      (λ s. new_absent (p ∷ q ∷ []) C y h.2 (two_of (nat_eq y p) (nat_eq y q) ∙ s))
      (ap (λ b. b || (not (nat_eq y x) && has y C)) (sym (two_of (nat_eq y p) (nat_eq y q))) ∙ sym (has_put x y H C d) ∙ i)
  uses_free (n.Drop k x a) C T d h y =
      drop_bool (nat_eq y x) (has y C) (free_in y a) (there x y h.0 C h.1) (sym (has_put x y [] C d) ∙ uses_free a (put x [] C) T (distinct_put x [] C d tt (λ z ne s. refl)) h.2 y)
