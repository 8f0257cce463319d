-- Capped amounts.
use Rattle.std.proofs.Common.{◌≡◌, refl, ap, sym, ◌∙◌, arith, inl, inr}
use Rattle.std.specs.Prelude.{ℕ, zero, suc, ◌+◌, ◌*◌, ◌-◌, ◌^◌, ◌≤◌, ◌⊎◌, Bool, true, false, cond, nat_lt, nat_le, ◌||◌, [], ◌∷◌, None, Some}
use Rattle.std.proofs.lemmas.Bool.Decides.{nat_tests}
use Rattle.rules_spec.specs.Numbers.{Carries, Condition}
use Rattle.rules_spec.specs.Kinds.{Amount, amounts}
use Rattle.rules_spec.specs.Faults.{Leaves, Fails, fault_at, or_fault}
use Rattle.rules_spec.specs.Carried.{condition_to}
use Rattle.rules_spec.specs.Capped.{cap, capped, capped_amount, CappedWalks, CappedFaults}
use Rattle.rules_spec.proofs.Carrying.{walks_carry}
use Rattle.rules_spec.proofs.Values.{amount_of}

cap_plus : (a b : ℕ) → cap (a + b) ≡ cap (cap a + cap b)
cap_plus a b = omega arith

pub cap_big : (a x : ℕ) → a ≤ x → 2 ^ 128 - 1 ≤ a → cap x ≡ 2 ^ 128 - 1
cap_big a x h g = omega arith

pub cap_times : (n a : ℕ) → cap (n * a) ≡ cap (n * cap a)
cap_times zero a = ap cap (omega arith)
cap_times (suc n) a = by (small a) where
  small : (a : ℕ) → (a ≤ 2 ^ 128 - 1) ⊎ (2 ^ 128 - 1 ≤ a)
  small a = grind arith

  by : (a ≤ 2 ^ 128 - 1) ⊎ (2 ^ 128 - 1 ≤ a) → cap (suc n * a) ≡ cap (suc n * cap a)
  by (inl h) = let e : a ≡ cap a = omega arith in ap (λ z. cap (suc n * z)) e
  by (inr h) =
      let e : cap a ≡ 2 ^ 128 - 1 = omega arith in
      cap_big a (suc n * a) (omega arith) h ∙ sym (cap_big (cap a) (suc n * cap a) (omega arith) (omega (arith, e)))

capped_carries : Carries (amounts 1) capped capped_amount
capped_carries = record {
  none = amount_of _ _ _ _ (omega arith) (omega arith);
  plus = λ x y. amount_of _ _ _ _ (cap_plus x.plus y.plus) (cap_plus x.minus y.minus);
  times = λ n x. amount_of _ _ _ _ (cap_times n x.plus) (cap_times n x.minus);
  number = λ n. amount_of _ _ _ _ (omega arith) (omega arith);
  less = λ n x. amount_of _ _ _ _ refl (omega arith);
}

pub capped_walks : CappedWalks
capped_walks = walks_carry (amounts 1) capped capped_amount capped_carries

le_same : (x y : ℕ) → (2 ^ 127 ≤ x → 2 ^ 127 ≤ y) → (2 ^ 127 ≤ y → 2 ^ 127 ≤ x) → nat_le (2 ^ 127) x ≡ nat_le (2 ^ 127) y
le_same x y f g = by (nat_le (2 ^ 127) x) (nat_le (2 ^ 127) y) refl refl where
  by : (a b : Bool) → nat_le (2 ^ 127) x ≡ a → nat_le (2 ^ 127) y ≡ b → a ≡ b
  by true true e h = refl
  by false false e h = refl
  by true false e h = let u : 2 ^ 127 ≤ y = f (grind (arith, nat_tests, e)) in absurd (grind (arith, nat_tests, h, u))
  by false true e h = let u : 2 ^ 127 ≤ x = g (grind (arith, nat_tests, h)) in absurd (grind (arith, nat_tests, e, u))

total_same : (a b : ℕ) → nat_le (2 ^ 127) (cap a + cap b) ≡ nat_le (2 ^ 127) (a + b)
total_same a b = le_same (cap a + cap b) (a + b) (λ h. omega (arith, h)) (λ h. omega (arith, h))

fault_same : (c : Condition Amount) → fault_at (condition_to capped_amount c) ≡ fault_at c
fault_same c =
    (λ i. cond (total_same c.left.plus c.right.minus i || total_same c.right.plus c.left.minus i) (Some (Leaves c.path c.index)) (cond (nat_lt (cap c.left.plus + cap c.right.minus) (cap c.right.plus + cap c.left.minus)) (Some (Fails c.path c.index)) None))
    ∙ by (nat_le (2 ^ 127) (c.left.plus + c.right.minus)) (nat_le (2 ^ 127) (c.right.plus + c.left.minus)) refl refl where
      by : (a b : Bool) → nat_le (2 ^ 127) (c.left.plus + c.right.minus) ≡ a → nat_le (2 ^ 127) (c.right.plus + c.left.minus) ≡ b →
          cond (a || b) (Some (Leaves c.path c.index)) (cond (nat_lt (cap c.left.plus + cap c.right.minus) (cap c.right.plus + cap c.left.minus)) (Some (Fails c.path c.index)) None)
          ≡ cond (a || b) (Some (Leaves c.path c.index)) (cond (nat_lt (c.left.plus + c.right.minus) (c.right.plus + c.left.minus)) (Some (Fails c.path c.index)) None)
      by true b e h = refl
      by false true e h = refl
      by false false e h =
          let l : cap c.left.plus + cap c.right.minus ≡ c.left.plus + c.right.minus = grind (arith, nat_tests, e) in
          let r : cap c.right.plus + cap c.left.minus ≡ c.right.plus + c.left.minus = grind (arith, nat_tests, h) in
          λ i. cond (nat_lt (l i) (r i)) (Some (Fails c.path c.index)) None

pub capped_faults : CappedFaults
capped_faults [] = refl
capped_faults (c ∷ cs) = λ i. or_fault (fault_same c i) (capped_faults cs i)
