-- Names that are bound in another order, with their values in the same one.
use Rattle.std.proofs.Common.{◌≡◌, ◌∙◌, ℕ, zero, suc, List, [], ◌∷◌, length, map, Bool, true, false, cond, Option, Some, None, refl, sym, ap, subst, arith}
use Rattle.std.proofs.lemmas.Option.{same_Some, slice_get_within}
use Rattle.std.specs.List.{slice_get, Contains}
use Rattle.std.specs.Str.{bytes_eq}
use Rattle.std.specs.Cmp.Lexicographic.{bytes_decides}
use Rattle.raml_syntax.specs.Tree.{Text, Parameter, Function}
use Rattle.raml_syntax.specs.Value.{Value}
use Rattle.raml_syntax.specs.Eval.{Env, look, bind_all, names_of}
use Rattle.raml_syntax.specs.Types.{Differ}
use Rattle.explain_exchange.specs.Exchange.{with_element, exchange_head, exchange, TwoParameters, in_order, exchanged_function}
use Rattle.explain_exchange.proofs.Lists.{within, map_exchange}

-- the value of the last of these names that is this one
abbrev pick : Text → List Text → List Value → Value → Value
pick x (n ∷ ns) (v ∷ vs) d = pick x ns vs (cond (bytes_eq x n) v d)
pick x _ _ d = d

picked : (x : Text) (env : Env) (ns : List Text) (vs : List Value) → look x (bind_all env ns vs) ≡ pick x ns vs (look x env)
picked x env [] [] = refl
picked x env [] (v ∷ vs) = refl
picked x env (n ∷ ns) [] = refl
picked x env (n ∷ ns) (v ∷ vs) = picked x ((n, v) ∷ env) ns vs

contains_at : {A : Type 0} (k : ℕ) (x : A) (xs : List A) → slice_get xs k ≡ Some x → Contains xs x
contains_at zero x [] e = absurd (cc)
contains_at (suc k) x [] e = absurd (cc)
contains_at zero x (y ∷ ys) e = (zero, omega arith, same_Some y x e)
contains_at (suc k) x (y ∷ ys) e =
    let rest = contains_at k x ys e in
    (suc rest.0, omega (arith, rest.1), rest.2)

-- the name is at none of these places
abbrev IsApart : Text → List Text → Type 0
IsApart n ns = (k : ℕ) (y : Text) → slice_get ns k ≡ Some y → n ≡ y → ⊥

apart : (n : Text) (ns : List Text) → (Contains ns n → ⊥) → IsApart n ns
apart n ns none k y e q = none (subst (Contains ns) (sym q) (contains_at k y ns e))

commute : (x n m : Text) (u v d : Value) → (n ≡ m → ⊥) → cond (bytes_eq x n) u (cond (bytes_eq x m) v d) ≡ cond (bytes_eq x m) v (cond (bytes_eq x n) u d)
commute x n m u v d differ = by (bytes_eq x n) (bytes_eq x m) refl refl
  where
    by : (a b : Bool) → bytes_eq x n ≡ a → bytes_eq x m ≡ b → cond a u (cond b v d) ≡ cond b v (cond a u d)
    by true true p q = absurd (differ (sym ((bytes_decides x n).0 p) ∙ (bytes_decides x m).0 q))
    by true false p q = refl
    by false true p q = refl
    by false false p q = refl

module _ (x n m : Text) (v w : Value) where
  -- the first name and the one at a place
  exchanged_with : (j : ℕ) (ns : List Text) (vs : List Value) (d : Value) → IsApart n ns → Differ ns → slice_get ns j ≡ Some m → slice_get vs j ≡ Some w → pick x (with_element j n ns) (with_element j v vs) (cond (bytes_eq x m) w d) ≡ pick x ns vs (cond (bytes_eq x n) v d)
  exchanged_with zero [] vs d a k e q = absurd (cc)
  exchanged_with (suc j) [] vs d a k e q = absurd (cc)
  exchanged_with zero (y ∷ ns) [] d a k e q = absurd (cc)
  exchanged_with (suc j) (y ∷ ns) [] d a k e q = absurd (cc)
  exchanged_with zero (y ∷ ns) (u ∷ vs) d a k e q =
      ap (pick x ns vs) (commute x n m v w d (a zero m e))
      ∙ (λ i. pick x ns vs (cond (bytes_eq x (sym (same_Some y m e) i)) (sym (same_Some u w q) i) (cond (bytes_eq x n) v d)))
  exchanged_with (suc j) (y ∷ ns) (u ∷ vs) d a k e q =
      ap (pick x (with_element j n ns) (with_element j v vs)) (commute x y m u w d (apart y ns k.0 j m e))
      ∙ exchanged_with j ns vs (cond (bytes_eq x y) u d) (λ i z p. a (suc i) z p) k.1 e q
      ∙ ap (pick x ns vs) (commute x n y v u d (a zero y refl))

none_is : {A : Type 0} (v : A) → None ≡ Some v → ⊥
none_is v q = cc

exchanged_pick : (x : Text) (i j : ℕ) (ns : List Text) (vs : List Value) (d : Value) → Differ ns → length vs ≡ length ns → pick x (exchange i j ns) (exchange i j vs) d ≡ pick x ns vs d
exchanged_pick x zero zero ns vs d k l = refl
exchanged_pick x (suc i) zero ns vs d k l = refl
exchanged_pick x zero (suc j) [] [] d k l = refl
exchanged_pick x zero (suc j) [] (v ∷ vs) d k l = absurd (cc)
exchanged_pick x zero (suc j) (n ∷ ns) [] d k l = absurd (cc)
exchanged_pick x zero (suc j) (n ∷ ns) (v ∷ vs) d k l = by (slice_get ns j) (slice_get vs j) refl refl
  where
    by : (o : Option Text) (q : Option Value) → slice_get ns j ≡ o → slice_get vs j ≡ q → pick x (exchange_head n o j ns) (exchange_head v q j vs) d ≡ pick x ns vs (cond (bytes_eq x n) v d)
    by None None e f = refl
    by (Some m) (Some w) e f = exchanged_with x n m v w j ns vs d (apart n ns k.0) k.1 e f
    by (Some m) None e f =
        let y = within vs j (omega (arith, slice_get_within ns j m e, l)) in
        absurd (none_is y.0 (sym f ∙ y.1))
    by None (Some w) e f =
        let y = within ns j (omega (arith, slice_get_within vs j w f, l)) in
        absurd (none_is y.0 (sym e ∙ y.1))
exchanged_pick x (suc i) (suc j) [] [] d k l = refl
exchanged_pick x (suc i) (suc j) [] (v ∷ vs) d k l = absurd (cc)
exchanged_pick x (suc i) (suc j) (n ∷ ns) [] d k l = absurd (cc)
exchanged_pick x (suc i) (suc j) (n ∷ ns) (v ∷ vs) d k l = exchanged_pick x i j ns vs (cond (bytes_eq x n) v d) k.1 (omega (arith, l))

-- each variable has the same value
abbrev pub SameValues : Env → Env → Type 0
SameValues env other = (x : Text) → look x other ≡ look x env

pub one_more : (y : Text) (v : Value) (env other : Env) → SameValues env other → SameValues ((y, v) ∷ env) ((y, v) ∷ other)
one_more y v env other k x = ap (cond (bytes_eq x y) v) (k x)

names_in_order : (two : TwoParameters) (g : Function) → names_of (exchanged_function two g) ≡ in_order two g.name (names_of g)
names_in_order two g = by (bytes_eq g.name two.function)
  where
    by : (b : Bool) → map (λ (p : Parameter). p.name) (cond b (exchange two.first two.second g.params) g.params) ≡ cond b (exchange two.first two.second (names_of g)) (names_of g)
    by true = sym (map_exchange (λ (p : Parameter). p.name) two.first two.second g.params)
    by false = refl

-- the parameters of a function with their arguments
pub same_values : (two : TwoParameters) (g : Function) (vs : List Value) → Differ (names_of g) → length vs ≡ length (names_of g) → SameValues (bind_all [] (names_of g) vs) (bind_all [] (names_of (exchanged_function two g)) (in_order two g.name vs))
same_values two g vs k l x =
    ap (λ ns. look x (bind_all [] ns (in_order two g.name vs))) (names_in_order two g)
    ∙ picked x [] (in_order two g.name (names_of g)) (in_order two g.name vs)
    ∙ by (bytes_eq g.name two.function)
    ∙ sym (picked x [] (names_of g) vs)
  where
    by : (b : Bool) → pick x (cond b (exchange two.first two.second (names_of g)) (names_of g)) (cond b (exchange two.first two.second vs) vs) (look x []) ≡ pick x (names_of g) vs (look x [])
    by true = exchanged_pick x two.first two.second (names_of g) vs (look x []) k l
    by false = refl
