-- Terms by their tuples.
use Rattle.std.proofs.Common.{◌≡◌, ◌≤◌, ◌*◌, ℕ, ℤ, Bool, true, false, cond, None, Some, List, [], ◌∷◌, ◌++◌, map, take, drop, length, ◌-◌, length-drop, refl, sym, ap, ◌∙◌, subst, arith, unwrap_or}
use Rattle.std.specs.Prelude.{unsigned_abs}
use Rattle.std.specs.List.{IsDistinct, AllByRecursion}
use Rattle.std.specs.Map.{keys_of}
use Rattle.std.proofs.lemmas.List.{take-append-drop, take_all}
use Rattle.std.proofs.lemmas.Map.Keys.{IsDistinct-head, IsDistinct-tail}
use Rattle.base_poly.specs.Plain.{Plain, alike}
use Rattle.base_poly.specs.Poly.{Term, magnitudes}
use Rattle.base_poly.specs.Total.{alike_is, alike_self}
use Rattle.bound_compare.specs.Compare.{term_at, number_at}

pub same_keys : (ts : List (List Plain × ℤ)) → map (λ t. t.0) ts ≡ keys_of (magnitudes ts)
same_keys [] = refl
same_keys (t ∷ ts) = ap (λ l. t.0 ∷ l) (same_keys ts)

pub magnitudes_joined : (ts us : List (List Plain × ℤ)) → magnitudes (ts ++ us) ≡ magnitudes ts ++ magnitudes us
magnitudes_joined [] us = refl
magnitudes_joined (t ∷ ts) us = ap (λ l. (t.0, unsigned_abs t.1) ∷ l) (magnitudes_joined ts us)

-- the first part decides, and then the second
pub term_joined_found : (t : List Plain) (n : ℕ) (ts us : List Term) → term_at t ts ≡ Some n → term_at t (ts ++ us) ≡ Some n
term_joined_found t n [] us h = cc
term_joined_found t n (x ∷ ts) us h = at (term_joined_found t n ts us) (alike t x.0) h
  where
    at : (term_at t ts ≡ Some n → term_at t (ts ++ us) ≡ Some n) → (b : Bool) → cond b (Some x.1) (term_at t ts) ≡ Some n → cond b (Some x.1) (term_at t (ts ++ us)) ≡ Some n
    at more true e = e
    at more false e = more e

pub term_joined_none : (t : List Plain) (ts us : List Term) → term_at t us ≡ None → term_at t (ts ++ us) ≡ term_at t ts
term_joined_none t [] us h = h
term_joined_none t (x ∷ ts) us h = ap (cond (alike t x.0) (Some x.1)) (term_joined_none t ts us h)

-- no term has the tuple
pub none_alike : (t : List Plain) (us : List Term) → AllByRecursion (λ k. alike t k ≡ false) (keys_of us) → term_at t us ≡ None
none_alike t [] h = refl
none_alike t (u ∷ us) h = (λ i. cond (h.0 i) (Some u.1) (term_at t us)) ∙ none_alike t us h.1

-- where tuples are distinct, the second part decides too
pub term_joined_later : (t : List Plain) (n : ℕ) (ts us : List Term) → IsDistinct alike (keys_of (ts ++ us)) → term_at t us ≡ Some n → term_at t (ts ++ us) ≡ Some n
term_joined_later t n [] us d h = h
term_joined_later t n (x ∷ ts) us d h = at (term_joined_later t n ts us (IsDistinct-tail alike x.0 (keys_of (ts ++ us)) d) h) (alike t x.0) refl
  where
    apart : None ≡ Some n → ⊥
    apart q = cc

    at : term_at t (ts ++ us) ≡ Some n → (b : Bool) → alike t x.0 ≡ b → cond b (Some x.1) (term_at t (ts ++ us)) ≡ Some n
    at more true e = absurd (apart (sym (none_alike t (ts ++ us) (subst (λ k. AllByRecursion (λ y. alike k y ≡ false) (keys_of (ts ++ us))) (sym (alike_is t x.0 e)) (IsDistinct-head alike x.0 (keys_of (ts ++ us)) d))) ∙ more))
    at more false e = more

-- each term has its own number
pub term_at_head : (x : Term) (us : List Term) → number_at x.0 (x ∷ us) ≡ x.1
term_at_head x us = ap (λ b. unwrap_or (cond b (Some x.1) (term_at x.0 us)) 0) (alike_self x.0)

-- what bounds the number of each tuple bounds it in the terms behind the first
pub others_at_most : (x : Term) (ts : List Term) (bound : List Plain → ℕ) (e : ℕ) → IsDistinct alike (keys_of (x ∷ ts)) →
    ((t : List Plain) → number_at t (x ∷ ts) * e ≤ bound t) → (t : List Plain) → number_at t ts * e ≤ bound t
others_at_most x ts bound e apart h t = at (alike t x.0) refl
  where
    at : (b : Bool) → alike t x.0 ≡ b → number_at t ts * e ≤ bound t
    at true q =
        let none = none_alike t ts (subst (λ k. AllByRecursion (λ y. alike k y ≡ false) (keys_of ts)) (sym (alike_is t x.0 q)) (IsDistinct-head alike x.0 (keys_of ts) apart)) in
        subst (λ o. unwrap_or o 0 * e ≤ bound t) (sym none) (omega arith)
    at false q = subst (λ b. unwrap_or (cond b (Some x.1) (term_at t ts)) 0 * e ≤ bound t) q (h t)

-- a list of terms cut in two at a place: what is found behind it, and what is not

rest : {X : Type 0} (k : ℕ) (xs : List X) → take (length xs - k) (drop k xs) ≡ drop k xs
rest k xs = ap (λ n. take n (drop k xs)) (sym (length-drop k xs)) ∙ take_all (length (drop k xs)) (drop k xs) (omega arith)

pub found_later : (t : List Plain) (ts : List (List Plain × ℤ)) (k n : ℕ) → IsDistinct alike (map (λ u. u.0) ts) → Some n ≡ term_at t (magnitudes (take (length ts - k) (drop k ts))) → Some n ≡ term_at t (magnitudes ts)
found_later t ts k n apart h =
    let whole = ap magnitudes (sym (take-append-drop k ts)) ∙ magnitudes_joined (take k ts) (drop k ts) in
    let distinct = subst (λ us. IsDistinct alike (keys_of us)) whole (subst (IsDistinct alike) (same_keys ts) apart) in
    sym (ap (term_at t) whole ∙ term_joined_later t n (magnitudes (take k ts)) (magnitudes (drop k ts)) distinct (sym (h ∙ ap (λ us. term_at t (magnitudes us)) (rest k ts))))

pub found_early : (t : List Plain) (ts : List (List Plain × ℤ)) (k : ℕ) → None ≡ term_at t (magnitudes (take (length ts - k) (drop k ts))) → term_at t (magnitudes (take k ts)) ≡ term_at t (magnitudes ts)
found_early t ts k h =
    sym (term_joined_none t (magnitudes (take k ts)) (magnitudes (drop k ts)) (sym (h ∙ ap (λ us. term_at t (magnitudes us)) (rest k ts))))
    ∙ ap (term_at t) (sym (magnitudes_joined (take k ts) (drop k ts)) ∙ ap magnitudes (take-append-drop k ts))
