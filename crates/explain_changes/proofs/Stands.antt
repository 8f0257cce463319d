-- Where a scope says that a variable's value is built so, it is.
use Rattle.std.proofs.Common.{◌≡◌, ◌∙◌, List, [], ◌∷◌, length, map, Bool, true, false, not, cond, ◌||◌, ◌&&◌, Option, Some, None, refl, sym, ap, subst, arith}
use Rattle.std.specs.Str.{bytes_eq}
use Rattle.std.specs.Cmp.Lexicographic.{bytes_decides}
use Rattle.std.proofs.lemmas.Option.{same_Some}
use Rattle.raml_syntax.specs.Tree as t
use Rattle.raml_syntax.specs.Tree.{Text, Type', Parameter, Prog}
use Rattle.raml_syntax.specs.Value as v
use Rattle.raml_syntax.specs.Value.{Value}
use Rattle.raml_syntax.specs.Eval.{Env, look, bind_all}
use Rattle.explain_changes.specs.Built.{Built, Nil, Leaf, Nothing, Pair, Cons, Node, Just, parts}
use Rattle.explain_changes.specs.Scope.{Scope, Bound, Apart, is_among, differ, without, built_at, kind, first, second, is_known_sized, variable, apart, in_pair, in_empty, in_list, in_tree, in_option, in_function}

-- the value that is built so
abbrev pub value : Built → Env → Value
value Nil env = v.Empty
value Leaf env = v.Empty
value Nothing env = v.Empty
value (Pair x y) env = v.Both (look x env) (look y env)
value (Cons x y) env = v.Cons (look x env) (look y env)
value (Node x y z) env = v.Node (look x env) (look y env) (look z env)
value (Just x) env = v.Just (look x env)

pub record Stands (S : Scope) (env : Env) : Type 0 where
  pub at : (x : Text) (b : Built) → built_at x S ≡ Some b → look x env ≡ value b env

neither : (p q : Bool) → (p || q) ≡ false → (p ≡ false) × (q ≡ false)
neither false q h = (refl, h)
neither true q h = absurd (cc)

both : (p q : Bool) → (not p && q) ≡ true → (p ≡ false) × (q ≡ true)
both false q h = (refl, h)
both true q h = absurd (cc)

is_other : (x y : Text) (ys : List Text) → is_among x (y ∷ ys) ≡ false → (bytes_eq x y ≡ false) × (is_among x ys ≡ false)
is_other x y ys h = neither (bytes_eq x y) (is_among x ys) h

differs : (x : Text) (xs : List Text) → differ (x ∷ xs) ≡ true → (is_among x xs ≡ false) × (differ xs ≡ true)
differs x xs h = both (is_among x xs) (differ xs) h

eq_self : (x : Text) → bytes_eq x x ≡ true
eq_self x = (bytes_decides x x).1 refl

look_other : (x y : Text) (w : Value) (env : Env) → bytes_eq x y ≡ false → look y ((x, w) ∷ env) ≡ look y env
look_other x y w env h = by (bytes_eq y x) refl
  where
    by : (c : Bool) → bytes_eq y x ≡ c → cond c w (look y env) ≡ look y env
    by true e =
        let same : bytes_eq x y ≡ true = (bytes_decides x y).1 (sym ((bytes_decides y x).0 e)) in
        absurd (cc)
    by false e = refl

-- what has no part of a name that is bound is as before
value_other : (x : Text) (w : Value) (env : Env) (b : Built) → is_among x (parts b) ≡ false → value b ((x, w) ∷ env) ≡ value b env
value_other x w env Nil h = refl
value_other x w env Leaf h = refl
value_other x w env Nothing h = refl
value_other x w env (Pair a b) h =
    let p = neither _ _ h in
    let q = neither _ _ p.1 in
    λ i. v.Both (look_other x a w env p.0 i) (look_other x b w env q.0 i)
value_other x w env (Cons a b) h =
    let p = neither _ _ h in
    let q = neither _ _ p.1 in
    λ i. v.Cons (look_other x a w env p.0 i) (look_other x b w env q.0 i)
value_other x w env (Node a b c) h =
    let p = neither _ _ h in
    let q = neither _ _ p.1 in
    let r = neither _ _ q.1 in
    λ i. v.Node (look_other x a w env p.0 i) (look_other x b w env q.0 i) (look_other x c w env r.0 i)
value_other x w env (Just a) h =
    let p = neither _ _ h in
    λ i. v.Just (look_other x a w env p.0 i)

still_known : (x : Text) (o : Option Built) (b : Built) → without x o ≡ Some b → (o ≡ Some b) × (is_among x (parts b) ≡ false)
still_known x None b h = absurd (cc)
still_known x (Some a) b h = by (is_among x (parts a)) refl h
  where
    by : (c : Bool) → is_among x (parts a) ≡ c → cond c None (Some a) ≡ Some b → (◌≡◌ {A = Option Built} (Some a) (Some b)) × (is_among x (parts b) ≡ false)
    by true e q = absurd (cc)
    by false e q = (q, subst (λ d. is_among x (parts d) ≡ false) (same_Some a b q) e)

pub stands_bound : (x : Text) (A : Option Type') (w : Value) (S : Scope) (env : Env) → Stands S env → Stands (Bound x A ∷ S) ((x, w) ∷ env)
stands_bound x A w S env k = record { at = λ y b e. by y b (bytes_eq y x) e }
  where
    by : (y : Text) (b : Built) (c : Bool) → cond c None (without x (built_at y S)) ≡ Some b → cond c w (look y env) ≡ value b ((x, w) ∷ env)
    by y b true e = absurd (cc)
    by y b false e =
        let known = still_known x (built_at y S) b e in
        k.at y b known.0 ∙ sym (value_other x w env b known.1)

stands_apart : (o : Option Text) (b : Built) (S : Scope) (env : Env) → Stands S env → ((x : Text) → o ≡ Some x → differ (x ∷ parts b) ≡ true → look x env ≡ value b env) → Stands (apart o b S) env
stands_apart None b S env k h = k
stands_apart (Some x) b S env k h = by (differ (x ∷ parts b)) refl
  where
    at : (y : Text) (d : Built) (c : Bool) → look x env ≡ value b env → bytes_eq y x ≡ c → cond c (Some b) (built_at y S) ≡ Some d → look y env ≡ value d env
    at y d true is e q =
        let same : y ≡ x = (bytes_decides y x).0 e in
        ap (λ z. look z env) same ∙ is ∙ ap (λ a. value a env) (same_Some b d q)
    at y d false is e q = k.at y d q

    by : (c : Bool) → differ (x ∷ parts b) ≡ c → Stands (cond c (Apart x b ∷ S) S) env
    by true e = record { at = λ y d q. at y d (bytes_eq y x) (h x refl e) refl q }
    by false e = k

-- the variable that is taken apart has this value
abbrev pub IsSubject : t.Term → Env → Value → Type 0
IsSubject c env w = (x : Text) → variable c ≡ Some x → look x env ≡ w

pub stands_empty : (S : Scope) (env : Env) (c : t.Term) (b : Built) → Stands S env → IsSubject c env (value b env) → Stands (in_empty S c b) env
stands_empty S env c b k h = stands_apart (variable c) b S env k (λ x e d. h x e)

two_parts : (s x y : Text) (a b : Value) (env : Env) (make : Value → Value → Value) → differ (s ∷ x ∷ y ∷ []) ≡ true → look s env ≡ make a b → look s ((y, b) ∷ (x, a) ∷ env) ≡ make (look x ((y, b) ∷ (x, a) ∷ env)) (look y ((y, b) ∷ (x, a) ∷ env))
two_parts s x y a b env make d is =
    let p = differs s (x ∷ y ∷ []) d in
    let q = differs x (y ∷ []) p.1 in
    let sx = is_other s x (y ∷ []) p.0 in
    let sy = is_other s y [] sx.1 in
    let xy = is_other x y [] q.0 in
    rw (sx.0, sy.0, xy.0, eq_self x, eq_self y, is) refl

pub stands_pair : (P : Prog) (S : Scope) (env : Env) (c : t.Term) (x y : Text) (a b : Value) → Stands S env → IsSubject c env (v.Both a b) → Stands (in_pair P S c x y) ((y, b) ∷ (x, a) ∷ env)
stands_pair P S env c x y a b k h = by (is_known_sized (kind P S c))
  where
    inner : Stands (Bound y (second (kind P S c)) ∷ Bound x (first (kind P S c)) ∷ S) ((y, b) ∷ (x, a) ∷ env)
    inner = stands_bound y _ b _ _ (stands_bound x _ a S env k)

    by : (sized : Bool) → Stands (cond sized (apart (variable c) (Pair x y) (Bound y (second (kind P S c)) ∷ Bound x (first (kind P S c)) ∷ S)) (Bound y (second (kind P S c)) ∷ Bound x (first (kind P S c)) ∷ S)) ((y, b) ∷ (x, a) ∷ env)
    by true = stands_apart (variable c) (Pair x y) _ _ inner (λ s e d. two_parts s x y a b env v.Both d (h s e))
    by false = inner

pub stands_list : (P : Prog) (S : Scope) (env : Env) (c : t.Term) (x y : Text) (a b : Value) → Stands S env → IsSubject c env (v.Cons a b) → Stands (in_list P S c x y) ((y, b) ∷ (x, a) ∷ env)
stands_list P S env c x y a b k h =
    stands_apart (variable c) (Cons x y) _ _ (stands_bound y _ b _ _ (stands_bound x _ a S env k))
    (λ s e d. two_parts s x y a b env v.Cons d (h s e))

three_parts : (s x y z : Text) (a b c : Value) (env : Env) → differ (s ∷ x ∷ y ∷ z ∷ []) ≡ true → look s env ≡ v.Node a b c → look s ((z, c) ∷ (y, b) ∷ (x, a) ∷ env) ≡ value (Node x y z) ((z, c) ∷ (y, b) ∷ (x, a) ∷ env)
three_parts s x y z a b c env d is =
    let p = differs s (x ∷ y ∷ z ∷ []) d in
    let q = differs x (y ∷ z ∷ []) p.1 in
    let r = differs y (z ∷ []) q.1 in
    let sx = is_other s x (y ∷ z ∷ []) p.0 in
    let sy = is_other s y (z ∷ []) sx.1 in
    let sz = is_other s z [] sy.1 in
    let xy = is_other x y (z ∷ []) q.0 in
    let xz = is_other x z [] xy.1 in
    let yz = is_other y z [] r.0 in
    rw (sx.0, sy.0, sz.0, xy.0, xz.0, yz.0, eq_self x, eq_self y, eq_self z, is) refl

pub stands_tree : (P : Prog) (S : Scope) (env : Env) (c : t.Term) (x y z : Text) (a b d : Value) → Stands S env → IsSubject c env (v.Node a b d) → Stands (in_tree P S c x y z) ((z, d) ∷ (y, b) ∷ (x, a) ∷ env)
stands_tree P S env c x y z a b d k h =
    stands_apart (variable c) (Node x y z) _ _ (stands_bound z _ d _ _ (stands_bound y _ b _ _ (stands_bound x _ a S env k)))
    (λ s e q. three_parts s x y z a b d env q (h s e))

one_part : (s x : Text) (a : Value) (env : Env) → differ (s ∷ x ∷ []) ≡ true → look s env ≡ v.Just a → look s ((x, a) ∷ env) ≡ value (Just x) ((x, a) ∷ env)
one_part s x a env d is =
    let p = differs s (x ∷ []) d in
    let sx = is_other s x [] p.0 in
    rw (sx.0, eq_self x, is) refl

pub stands_option : (P : Prog) (S : Scope) (env : Env) (c : t.Term) (x : Text) (a : Value) → Stands S env → IsSubject c env (v.Just a) → Stands (in_option P S c x) ((x, a) ∷ env)
stands_option P S env c x a k h =
    stands_apart (variable c) (Just x) _ _ (stands_bound x _ a S env k) (λ s e d. one_part s x a env d (h s e))

nothing_stands : (env : Env) → Stands [] env
nothing_stands env = record { at = λ x b e. absurd (cc) }

-- as many arguments as parameters
stands_function : (ps : List Parameter) (ws : List Value) (S : Scope) (env : Env) → Stands S env → length ws ≡ length ps → Stands (in_function S ps) (bind_all env (map (λ (p : Parameter). p.name) ps) ws)
stands_function [] [] S env k h = k
stands_function [] (w ∷ ws) S env k h = absurd (cc)
stands_function (p ∷ ps) [] S env k h = absurd (cc)
stands_function (p ∷ ps) (w ∷ ws) S env k h = stands_function ps ws _ _ (stands_bound p.name (Some p.type) w S env k) (omega (arith, h))

pub stands_at_start : (ps : List Parameter) (ws : List Value) → length ws ≡ length ps → Stands (in_function [] ps) (bind_all [] (map (λ (p : Parameter). p.name) ps) ws)
stands_at_start ps ws h = stands_function ps ws [] [] (nothing_stands []) h
