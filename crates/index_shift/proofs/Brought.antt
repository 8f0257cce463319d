-- What entries bring to a weighed sum.
use Rattle.std.proofs.Common.{◌≡◌, ◌≤◌, ◌<◌, ℕ, zero, suc, ◌+◌, ◌*◌, ◌==◌, ◌⊎◌, inl, inr, ⊎_elim, if◌then◌else◌, Bool, true, false, cond, not, List, [], ◌∷◌, ◌++◌, length, position, None, Some, refl, sym, ap, ◌∙◌, subst, arith}
use Rattle.std.proofs.Math.Nat.{mul-le-mul_left}
use Rattle.std.proofs.lemmas.Bool.{lt-ltb}
use Rattle.std.proofs.lemmas.Bool.Decides.{nat_tests}
use Rattle.std.specs.List.{position_or_len}
use Rattle.base_poly.specs.Plain.{Plain, alike}
use Rattle.base_poly.specs.Base.{total}
use Rattle.base_poly.specs.Total.{alike_is, alike_self}
use Rattle.base_poly.proofs.Among.{Among}
use Rattle.base_poly.proofs.Sums.{total_joined}
use Rattle.index_shift.specs.Potential.{Annotation, weighed, moved}
use Rattle.index_shift.specs.Maps.{Carry, entry_to, placed, entries_from}
use Rattle.index_shift.specs.declared.entry.Entry.{Entry}

-- P of each element
abbrev pub Each : {X : Type 0} → (X → Type 0) → List X → Type 0
Each P [] = Unit {0}
Each P (x ∷ xs) = P x × Each P xs

module _ {X : Type 0} where
  pub each_joined : (P : X → Type 0) (xs ys : List X) → Each P xs → Each P ys → Each P (xs ++ ys)
  each_joined P [] ys h g = g
  each_joined P (x ∷ xs) ys h g = (h.0, each_joined P xs ys h.1 g)

  pub each_weaker : (P Q : X → Type 0) (xs : List X) → ((x : X) → P x → Q x) → Each P xs → Each Q xs
  each_weaker P Q [] f h = tt
  each_weaker P Q (x ∷ xs) f h = (f x h.0, each_weaker P Q xs f h.1)

  pub each_among : (P : X → Type 0) (xs : List X) → ((x : X) → Among x xs → P x) → Each P xs
  each_among P [] h = tt
  each_among P (x ∷ xs) h = (h x (inl refl), each_among P xs (λ y m. h y (inr m)))

-- Weighed sums

module _ {X : Type 0} where
  pub weighed_as : (f : X → ℕ) (xs : List X) (q r : Annotation) → ((k : ℕ) → q k ≡ r k) → weighed f xs q ≡ weighed f xs r
  weighed_as f [] q r h = refl
  weighed_as f (x ∷ xs) q r h = (λ n. h 0 n * f x + weighed_as f xs (λ k. q (suc k)) (λ k. r (suc k)) (λ k. h (suc k)) n)

  pub weighed_none : (f : X → ℕ) (xs : List X) (q : Annotation) → ((k : ℕ) → q k ≡ 0) → weighed f xs q ≡ 0
  weighed_none f [] q h = refl
  weighed_none f (x ∷ xs) q h = let one = h 0 in let more = weighed_none f xs (λ k. q (suc k)) (λ k. h (suc k)) in grind (arith, one, more)

  pub weighed_sum : (f : X → ℕ) (xs : List X) (q r : Annotation) → weighed f xs (λ k. q k + r k) ≡ weighed f xs q + weighed f xs r
  weighed_sum f [] q r = refl
  weighed_sum f (x ∷ xs) q r = let more = weighed_sum f xs (λ k. q (suc k)) (λ k. r (suc k)) in grind (arith, more)

  pub weighed_same : (f g : X → ℕ) (xs : List X) (q : Annotation) → Each (λ x. f x ≡ g x) xs → weighed f xs q ≡ weighed g xs q
  weighed_same f g [] q h = refl
  weighed_same f g (x ∷ xs) q h = (λ n. q 0 * h.0 n + weighed_same f g xs (λ k. q (suc k)) h.1 n)

  pub weighed_less : (f g : X → ℕ) (xs : List X) (q : Annotation) → Each (λ x. f x ≤ g x) xs → weighed f xs q ≤ weighed g xs q
  weighed_less f g [] q h = omega arith
  weighed_less f g (x ∷ xs) q h =
      let one = mul-le-mul_left (q 0) h.0 in let more = weighed_less f g xs (λ k. q (suc k)) h.1 in omega (arith, one, more)

  -- what the item at the position is worth
  abbrev pub worth_at : (X → ℕ) → List X → ℕ → ℕ
  worth_at f [] k = 0
  worth_at f (x ∷ xs) zero = f x
  worth_at f (x ∷ xs) (suc k) = worth_at f xs k

  pub one_moved : (f : X → ℕ) (xs : List X) (to n : ℕ) → weighed f xs (λ k. if to == k then n else 0) ≡ n * worth_at f xs to
  one_moved f [] to n = grind arith
  one_moved f (x ∷ xs) zero n = let more = weighed_none f xs (λ k. if zero == suc k then n else 0) (λ k. grind (arith, nat_tests)) in grind (arith, more)
  one_moved f (x ∷ xs) (suc to) n =
      let more = weighed_as f xs (λ k. if suc to == suc k then n else 0) (λ k. if to == k then n else 0) (λ k. grind (arith, nat_tests)) in
      let rest = one_moved f xs to n in grind (arith, more, rest)

  -- what an entry brings
  abbrev pub brings : (X → ℕ) → List X → Annotation → Entry → ℕ
  brings f xs q e = (e.times * q e.from) * worth_at f xs e.to

  pub moved_worth : (f : X → ℕ) (xs : List X) (es : List Entry) (q : Annotation) → weighed f xs (moved es q) ≡ total (brings f xs q) es
  moved_worth f xs [] q = weighed_none f xs (λ k. 0) (λ k. refl)
  moved_worth f xs (e ∷ es) q =
      weighed_sum f xs (λ k. if e.to == k then e.times * q e.from else 0) (moved es q)
      ∙ (λ n. one_moved f xs e.to (e.times * q e.from) n + moved_worth f xs es q n)

-- Positions

-- a tuple of the list has a position, at which the tuple stands
record Stands (f : List Plain → ℕ) (t : List Plain) (us : List (List Plain)) : Type 0 where
  within : position_or_len (alike t) us < length us
  worth : worth_at f us (position_or_len (alike t) us) ≡ f t

stands : (f : List Plain → ℕ) (t : List Plain) (us : List (List Plain)) → Among t us → Stands f t us
stands f t [] m = absurd m
stands f t (u ∷ us) m = by (alike t u) refl (stands f t us)
  where
    later : alike t u ≡ false → (u ≡ t) ⊎ Among t us → Among t us
    later e m = ⊎_elim (λ s. absurd (apart (sym (alike_self t) ∙ ap (alike t) (sym s) ∙ e))) (λ g. g) m
      where
        apart : true ≡ false → ⊥
        apart q = cc

    by : (b : Bool) → alike t u ≡ b → (Among t us → Stands f t us) → Stands f t (u ∷ us)
    by true e more =
        let at : position_or_len (alike t) (u ∷ us) ≡ 0 = ap (λ b. cond (not b) (1 + position_or_len (alike t) us) 0) e in
        record { within = subst (λ n. n < length (u ∷ us)) (sym at) (omega arith); worth = ap (worth_at f (u ∷ us)) at ∙ ap f (sym (alike_is t u e)) }
    by false e more =
        let rest = more (later e m) in
        let at : position_or_len (alike t) (u ∷ us) ≡ suc (position_or_len (alike t) us) = ap (λ b. cond (not b) (1 + position_or_len (alike t) us) 0) e ∙ (omega arith) in
        let below = rest.within in
        record { within = subst (λ n. n < length (u ∷ us)) (sym at) (omega (arith, below)); worth = ap (worth_at f (u ∷ us)) at ∙ rest.worth }

-- Entries

module _ (f : List Plain → ℕ) (us : List (List Plain)) (q : Annotation) where
  placed_worth : (from : ℕ) (es : List (List Plain × ℕ)) → Each (λ e. Among e.0 us) es → total (brings f us q) (placed us from es) ≡ q from * total (λ e. e.1 * f e.0) es
  placed_worth from [] h = grind arith
  placed_worth from (e ∷ es) h =
      let at = stands f e.0 us h.0 in
      let there : position (alike e.0) us ≡ Some (position_or_len (alike e.0) us) = ap (λ b. cond b (Some (position_or_len (alike e.0) us)) None) (lt-ltb _ _ at.within) in
      total_joined (brings f us q) (entry_to from e.1 (position (alike e.0) us)) (placed us from es)
      ∙ (λ n. total (brings f us q) (entry_to from e.1 (there n)) + placed_worth from es h.1 n)
      ∙ (λ n. ((e.1 * q from) * at.worth n + 0) + q from * total (λ e. e.1 * f e.0) es)
      ∙ regroup e.1 (q from) (f e.0) (total (λ e. e.1 * f e.0) es)
    where
      regroup : (a b c d : ℕ) → ((a * b) * c + 0) + b * d ≡ b * (a * c + d)
      regroup a b c d = grind arith

  entries_worth : (c : Carry) (ts : List (List Plain)) (from : ℕ) → Each (λ t. Each (λ e. Among e.0 us) (c t)) ts →
      total (brings f us q) (entries_from from c ts us) ≡ weighed (λ t. total (λ e. e.1 * f e.0) (c t)) ts (λ k. q (from + k))
  entries_worth c [] from h = refl
  entries_worth c (t ∷ ts) from h =
      total_joined (brings f us q) (placed us from (c t)) (entries_from (suc from) c ts us)
      ∙ (λ n. (placed_worth from (c t) h.0 ∙ ap (λ k. q k * total (λ e. e.1 * f e.0) (c t)) here) n + (entries_worth c ts (suc from) h.1 ∙ weighed_as _ ts _ _ (λ k. ap q (next k))) n)
    where
      here : from ≡ from + 0
      here = omega arith

      next : (k : ℕ) → suc from + k ≡ from + suc k
      next k = omega arith

  -- the moved annotation is worth what the tuples are carried to
  pub carried_worth : (c : Carry) (ts : List (List Plain)) → Each (λ t. Each (λ e. Among e.0 us) (c t)) ts →
      weighed f us (moved (entries_from 0 c ts us) q) ≡ weighed (λ t. total (λ e. e.1 * f e.0) (c t)) ts q
  carried_worth c ts h = moved_worth f us (entries_from 0 c ts us) q ∙ entries_worth c ts 0 h ∙ weighed_as _ ts _ _ (λ k. ap q (from_none k))
    where
      from_none : (k : ℕ) → 0 + k ≡ k
      from_none k = omega arith
