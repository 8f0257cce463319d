-- The totals of conditions.
use Rattle.std.proofs.Common.{◌≡◌, refl, ap, sym, ◌∙◌, arith}
use Rattle.std.specs.Prelude.{ℕ, zero, suc, ◌+◌, ◌-◌, ◌<◌, ◌^◌, min, ◌||◌, Bool, true, false, cond, nat_lt, nat_le, List, [], ◌∷◌, drop, length, slice_index_or, None, Some}
use Rattle.std.proofs.lemmas.Bool.Decides.{nat_tests}
use Rattle.rules_spec.specs.Numbers.{Numbers, Condition}
use Rattle.rules_spec.specs.Kinds.{Amount, total_left, total_right}
use Rattle.rules_spec.specs.Walk.{at, against, numbered}
use Rattle.rules_spec.specs.Faults.{Leaves, Fails, fault_at, or_fault, first_fault}
use Rattle.rules_spec.specs.Capped.{capped}

too_great_capped : (n : ℕ) → nat_le (2 ^ 127) (min n (2 ^ 128 - 1)) ≡ nat_le (2 ^ 127) n
too_great_capped n = grind (arith, nat_tests)

less_capped : (m n : ℕ) → nat_le (2 ^ 127) m ≡ false → nat_le (2 ^ 127) n ≡ false → nat_lt (min m (2 ^ 128 - 1)) (min n (2 ^ 128 - 1)) ≡ nat_lt m n
less_capped m n h k = grind (arith, nat_tests, h, k)

-- with totals that stand at the greatest number of 128 bits where they would leave it
pub compared : (c : Condition Amount) (tl tr : ℕ) → tl ≡ min (total_left c) (2 ^ 128 - 1) → tr ≡ min (total_right c) (2 ^ 128 - 1) →
    cond (nat_le (2 ^ 127) tl || nat_le (2 ^ 127) tr) (Some (Leaves c.path c.index)) (cond (nat_lt tl tr) (Some (Fails c.path c.index)) None) ≡ fault_at c
compared c tl tr e h =
    (λ i. cond (nat_le (2 ^ 127) (e i) || nat_le (2 ^ 127) (h i)) (Some (Leaves c.path c.index)) (cond (nat_lt (e i) (h i)) (Some (Fails c.path c.index)) None))
    ∙ (λ i. cond (too_great_capped l i || too_great_capped r i) (Some (Leaves c.path c.index)) (cond (nat_lt (min l (2 ^ 128 - 1)) (min r (2 ^ 128 - 1))) (Some (Fails c.path c.index)) None))
    ∙ by (nat_le (2 ^ 127) l) (nat_le (2 ^ 127) r) refl refl where
      l : ℕ
      l = total_left c

      r : ℕ
      r = total_right c

      by : (a b : Bool) → nat_le (2 ^ 127) (total_left c) ≡ a → nat_le (2 ^ 127) (total_right c) ≡ b →
          cond (a || b) (Some (Leaves c.path c.index)) (cond (nat_lt (min (total_left c) (2 ^ 128 - 1)) (min (total_right c) (2 ^ 128 - 1))) (Some (Fails c.path c.index)) None)
          ≡ cond (a || b) (Some (Leaves c.path c.index)) (cond (nat_lt (total_left c) (total_right c)) (Some (Fails c.path c.index)) None)
      by true b e h = refl
      by false true e h = refl
      by false false e h = ap (λ t. cond t (Some (Fails c.path c.index)) None) (less_capped (total_left c) (total_right c) e h)

-- both sides from a place on
nothing_at : {E : Type 0} (A : Numbers E) (ys : List E) (k : ℕ) (d : E) → k < length ys →
    against A [] (drop k ys) ≡ (A.none, slice_index_or ys k d) ∷ against A [] (drop (suc k) ys)
nothing_at A [] k d h = absurd (omega (arith, h))
nothing_at A (y ∷ ys) zero d h = refl
nothing_at A (y ∷ ys) (suc k) d h = nothing_at A ys k d (omega (arith, h))

against_at : {E : Type 0} (A : Numbers E) (q ys : List E) (k : ℕ) (d : E) → k < length ys →
    against A (drop k q) (drop k ys) ≡ (at A q k, slice_index_or ys k d) ∷ against A (drop (suc k) q) (drop (suc k) ys)
against_at A q [] k d h = absurd (omega (arith, h))
against_at A [] (y ∷ ys) zero d h = refl
against_at A (x ∷ q) (y ∷ ys) zero d h = refl
against_at A [] (y ∷ ys) (suc k) d h = nothing_at A ys k d (omega (arith, h))
against_at A (x ∷ q) (y ∷ ys) (suc k) d h = against_at A q ys k d (omega (arith, h))

-- past a condition without trouble
pub next_fault : (path : List ℕ) (i k : ℕ) (q ys : List Amount) (d : Amount) → k < length ys →
    fault_at (record { path = path; index = i + k; left = at capped q k; right = slice_index_or ys k d }) ≡ None →
    first_fault (numbered path (i + (k + 1)) (against capped (drop (k + 1) q) (drop (k + 1) ys))) ≡ first_fault (numbered path (i + k) (against capped (drop k q) (drop k ys)))
next_fault path i k q ys d h none =
    let n : i + (k + 1) ≡ suc (i + k) = omega arith in
    let m : k + 1 ≡ suc k = omega arith in
    (λ j. first_fault (numbered path (n j) (against capped (drop (m j) q) (drop (m j) ys))))
    ∙ ap (λ o. or_fault o (first_fault (numbered path (suc (i + k)) (against capped (drop (suc k) q) (drop (suc k) ys))))) (sym none)
    ∙ ap (λ l. first_fault (numbered path (i + k) l)) (sym (against_at capped q ys k d h))
