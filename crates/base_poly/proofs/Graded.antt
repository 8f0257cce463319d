-- Tuples by degree: none is lost.
use Rattle.std.proofs.Common.{◌≡◌, ℕ, zero, suc, ◌+◌, ◌-◌, ◌≤◌, ◌<◌, ◌⊎◌, inl, inr, ⊎_elim, Bool, true, false, not, cond, List, [], ◌∷◌, ◌++◌, filter, length, nat_eq, All, Contains, refl, sym, ap, ◌∙◌, subst, arith, length-append, append_assoc, append-nil}
use Rattle.std.proofs.lemmas.List.Elements.{All-weaker, All-contains_itself}
use Rattle.std.proofs.lemmas.Bool.{ne_eqb, eq-eqb, eqb-true}
use Rattle.raml_syntax.specs.Tree.{Type'}
use Rattle.base_poly.specs.Plain.{Plain, degrees}
use Rattle.base_poly.specs.Indices.{tuples_up_to, by_degree, index_list}
use Rattle.base_poly.proofs.Among.{Among, contains_among}
use Rattle.base_poly.proofs.Exact.{sound_tuples}
use Rattle.base_poly.proofs.Longer.{by_degree_step}

kept_one : (from : ℕ) (t : List Plain) (ts : List (List Plain)) (b : Bool) → nat_eq (degrees t) from ≡ b →
    length (filter (λ t. nat_eq (degrees t) from) (t ∷ ts)) ≡ cond b 1 0 + length (filter (λ t. nat_eq (degrees t) from) ts)
kept_one from t ts true e = ap (λ b. length (cond b (t ∷ filter (λ t. nat_eq (degrees t) from) ts) (filter (λ t. nat_eq (degrees t) from) ts))) e ∙ (omega arith)
kept_one from t ts false e = ap (λ b. length (cond b (t ∷ filter (λ t. nat_eq (degrees t) from) ts) (filter (λ t. nat_eq (degrees t) from) ts))) e ∙ (omega arith)

one_less : (n from : ℕ) (t : List Plain) (ts : List (List Plain)) → degrees t < from → length (by_degree n from (t ∷ ts)) ≡ length (by_degree n from ts)
one_less zero from t ts h = refl
one_less (suc n) from t ts h =
    let a = length-append (filter (λ t. nat_eq (degrees t) from) (t ∷ ts)) (by_degree n (1 + from) (t ∷ ts)) in
    let b = length-append (filter (λ t. nat_eq (degrees t) from) ts) (by_degree n (1 + from) ts) in
    let c = kept_one from t ts false (ne_eqb (degrees t) from (λ e. omega (arith, e, h))) in
    let d = one_less n (1 + from) t ts (omega arith) in
    omega (arith, a, b, c, d)

one_more : (n from : ℕ) (t : List Plain) (ts : List (List Plain)) → from ≤ degrees t → degrees t < from + n → length (by_degree n from (t ∷ ts)) ≡ 1 + length (by_degree n from ts)
one_more zero from t ts h k = absurd (omega (arith, h, k))
one_more (suc n) from t ts h k =
    let a = length-append (filter (λ t. nat_eq (degrees t) from) (t ∷ ts)) (by_degree n (1 + from) (t ∷ ts)) in
    let b = length-append (filter (λ t. nat_eq (degrees t) from) ts) (by_degree n (1 + from) ts) in
    ⊎_elim
    (λ e. let c = kept_one from t ts true (eq-eqb (degrees t) from e) in let d = one_less n (1 + from) t ts (omega (arith, e)) in omega (arith, a, b, c, d))
    (λ e. let c = kept_one from t ts false (ne_eqb (degrees t) from (λ f. omega (arith, e, f))) in let d = one_more n (1 + from) t ts e (omega (arith, k)) in omega (arith, a, b, c, d))
    (here h)
  where
    here : from ≤ degrees t → (degrees t ≡ from) ⊎ (1 + from ≤ degrees t)
    here h = grind arith

all_kept : (d : ℕ) (ts : List (List Plain)) → ((t : List Plain) → Among t ts → degrees t ≤ d) → length (by_degree (1 + d) 0 ts) ≡ length ts
all_kept d [] h = none (1 + d) 0
  where
    none : (n from : ℕ) → length (by_degree n from []) ≡ 0
    none zero from = refl
    none (suc n) from = none n (1 + from)
all_kept d (t ∷ ts) h =
    let a = h t (inl refl) in let b = one_more (1 + d) 0 t ts (omega arith) (omega arith) in let c = all_kept d ts (λ u m. h u (inr m)) in omega (arith, b, c)

pub as_many : (As : List Type') (d : ℕ) → length (index_list As d) ≡ length (tuples_up_to As d)
as_many As d = all_kept d (tuples_up_to As d) (λ t m. (sound_tuples As d t m).1)

pub low_tuples : (As : List Type') (d : ℕ) (ts : List (List Plain)) → ts ≡ tuples_up_to As d → d ≤ 255 → All (λ t. degrees t ≤ 255) ts
low_tuples As d ts same h =
    All-weaker (Contains ts) (λ t. degrees t ≤ 255)
    (λ t m. let low = (sound_tuples As d t (subst (Among t) same (contains_among t ts m))).1 in omega (arith, low, h)) ts (All-contains_itself ts)

-- the tuples of other degrees are where they were
others : (a b : ℕ) → (a ≡ b → ⊥) → (ts : List (List Plain)) → filter (λ t. nat_eq (degrees t) b) (filter (λ t. not (nat_eq (degrees t) a)) ts) ≡ filter (λ t. nat_eq (degrees t) b) ts
others a b apart [] = refl
others a b apart (t ∷ ts) = at (nat_eq (degrees t) a) refl (others a b apart ts)
  where
    of_b : List (List Plain) → List (List Plain)
    of_b us = filter (λ t. nat_eq (degrees t) b) us

    rest : List (List Plain)
    rest = filter (λ t. not (nat_eq (degrees t) a)) ts

    at : (x : Bool) → nat_eq (degrees t) a ≡ x → of_b rest ≡ of_b ts → of_b (cond (not (nat_eq (degrees t) a)) (t ∷ rest) rest) ≡ of_b (t ∷ ts)
    at true e more =
        (λ n. of_b (cond (not (e n)) (t ∷ rest) rest)) ∙ more ∙ (λ n. cond (sym (ne_eqb (degrees t) b (λ f. apart (sym (eqb-true _ _ e) ∙ f))) n) (t ∷ of_b ts) (of_b ts))
    at false e more = (λ n. of_b (cond (not (e n)) (t ∷ rest) rest)) ∙ (λ n. cond (nat_eq (degrees t) b) (t ∷ more n) (more n))

all_others : (n from low : ℕ) (ts : List (List Plain)) → from < low → by_degree n low (filter (λ t. not (nat_eq (degrees t) from)) ts) ≡ by_degree n low ts
all_others zero from low ts h = refl
all_others (suc n) from low ts h = λ i. others from low (λ e. omega (arith, e, h)) ts i ++ all_others n from (1 + low) ts (omega (arith, h)) i

pub degree_done : (so_far now found left whole : List (List Plain)) (n m from : ℕ) → now ≡ so_far ++ filter (λ t. nat_eq (degrees t) from) found →
    left ≡ filter (λ t. not (nat_eq (degrees t) from)) found → 0 < n → m ≡ n - 1 → so_far ++ by_degree n from found ≡ whole → now ++ by_degree m (from + 1) left ≡ whole
degree_done so_far now found left whole n m from new others h less done =
    (λ i. new i ++ by_degree (less i) (from + 1) (others i))
    ∙ ap (λ l. (so_far ++ filter (λ t. nat_eq (degrees t) from) found) ++ l) (all_others (n - 1) from (from + 1) found (omega arith))
    ∙ append_assoc so_far (filter (λ t. nat_eq (degrees t) from) found) (by_degree (n - 1) (from + 1) found)
    ∙ ap (λ l. so_far ++ l) (sym (by_degree_step n from found h)) ∙ done

pub all_done : (ordered left whole : List (List Plain)) (n from : ℕ) → n ≡ 0 → ordered ++ by_degree n from left ≡ whole → ordered ≡ whole
all_done ordered left whole n from none done = sym (append-nil ordered) ∙ (λ i. ordered ++ by_degree (sym none i) from left) ∙ done
