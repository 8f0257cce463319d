-- Numbers in their places, over what they have in common.
use Rattle.std.proofs.Common.{◌≡◌, sym, subst, ◌∙◌, ℕ, zero, suc, ◌+◌, ◌<◌, ◌≤◌, inl, inr, ℤ, pos, ◌*ℤ◌, ◌<ℤ◌, ◌≤ℤ◌, FitsSigned, to_z, of_z, w64, unsigned_abs, arith, List, [], ◌∷◌, length, set}
use Rattle.std.proofs.lemmas.Int.{ints, to_z-of_z}
use Rattle.std.proofs.lemmas.Nat.Gcd.{dvd-zero}
use Rattle.std.proofs.lemmas.List.{get_or_past}
use Rattle.simplex_rows.specs.Multiples.{IsMultiple, AreMultiples}
use Rattle.simplex_rows.specs.Placed.{placed, StayWithin}
use Rattle.simplex_rows.proofs.Wholes.{before_or_from, earlier_or_here}
use Rattle.simplex_rows.proofs.ManyChanging.{Changing, change_next}

multiple_at : (k : ℤ) (ns : List ℤ) (c : ℕ) → AreMultiples k ns → IsMultiple k (placed ns c)
multiple_at k [] zero h = dvd-zero (unsigned_abs k)
multiple_at k [] (suc c) h = dvd-zero (unsigned_abs k)
multiple_at k (n ∷ ns) zero h = h.0
multiple_at k (n ∷ ns) (suc c) h = multiple_at k ns c h.1

module _ (d : ℤ) (k : ℕ) (old now : List ℤ) (f : FitsSigned w64 d) (g : FitsSigned w64 (placed now k)) (changing : Changing (λ x y. y *ℤ to_z w64 (of_z w64 d) ≡ x) k old now) where
  same_still : placed now k ≡ placed old k
  same_still = changing.left k (let l : k ≤ k = omega arith in l)

  pub multiple_read : AreMultiples d old → IsMultiple (to_z w64 (of_z w64 d)) (to_z w64 (of_z w64 (placed now k)))
  multiple_read h = rw (to_z-of_z w64 _ f, to_z-of_z w64 _ g, same_still) (multiple_at d old k h)

  pub divided_next : (n : ℤ) → FitsSigned w64 n → n *ℤ to_z w64 (of_z w64 d) ≡ to_z w64 (of_z w64 (placed now k)) → k < length now → Changing (λ x y. y *ℤ to_z w64 (of_z w64 d) ≡ x) (k + 1) old (set now k (to_z w64 (of_z w64 n)))
  divided_next n h e inside = rw (to_z-of_z w64 n h) (change_next (λ x y. y *ℤ to_z w64 (of_z w64 d) ≡ x) k old now changing n inside (e ∙ to_z-of_z w64 _ g ∙ same_still))

-- a bound of the first k numbers
pub record BoundFirst (start most : ℤ) (k : ℕ) (ns : List ℤ) : Type 0 where
  pub first : start ≤ℤ most
  pub each : (c : ℕ) → c < k → pos (unsigned_abs (placed ns c)) ≤ℤ most

pub bound_first : (n : ℤ) (ns : List ℤ) → BoundFirst n n 0 ns
bound_first n ns = record { first = omega (arith, ints); each = λ c l. absurd (omega arith) }

pub bound_more : (first most more : ℤ) (k : ℕ) (ns : List ℤ) → BoundFirst first most k ns → most ≤ℤ more → pos (unsigned_abs (placed ns k)) ≤ℤ more → BoundFirst first more (k + 1) ns
bound_more first most more k ns h m n = record {
  first = let f = h.first in omega (arith, ints);
  each = λ c l. elim (earlier_or_here c k l) [
    | inl e ↦ let b = h.each c e in omega (arith, ints)
    | inr same ↦ subst (λ (j : ℕ). pos (unsigned_abs (placed ns j)) ≤ℤ more) (sym same) n
  ];
}

pub bounds_all : (first most : ℤ) (k : ℕ) (ns : List ℤ) → length ns ≤ k → pos 0 <ℤ first → BoundFirst first most k ns → StayWithin most ns
bounds_all first most k ns l p h = record {
  each = λ c. elim (before_or_from c k) [
    | inl m ↦ h.each c m
    | inr g ↦ rw (get_or_past ns c (pos 0) (omega arith)) (let f = h.first in omega (arith, ints))
  ];
}
