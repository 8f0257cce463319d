-- Lists of fractions that are made one by one.
use Rattle.std.proofs.Common.{◌≡◌, ◌≢◌, refl, sym, ap, subst, ◌∙◌, ℕ, zero, suc, ◌+◌, ◌<◌, ◌≤◌, ℤ, pos, arith, List, [], ◌∷◌, ◌++◌, length, set, inl, inr}
use lib.ListN.{length-append}
use Rattle.frac128.specs.declared.Frac.{Frac}
use Rattle.frac128.specs.Values.{numerator, denominator}
use Rattle.simplex.specs.Reading.{frac_at, column_at, HaveParts, NoneTwice, IsSpreadTo}
use Rattle.simplex.proofs.Rows.{earlier_or_here}

appended_before : (xs : List Frac) (x : Frac) (i : ℕ) → i < length xs → frac_at (xs ++ x ∷ []) i ≡ frac_at xs i
appended_before [] x i h = absurd (omega arith)
appended_before (y ∷ xs) x zero h = refl
appended_before (y ∷ xs) x (suc i) h = appended_before xs x i (omega arith)

appended_last : (xs : List Frac) (x : Frac) (i : ℕ) → i ≡ length xs → frac_at (xs ++ x ∷ []) i ≡ x
appended_last [] x zero h = refl
appended_last [] x (suc i) h = absurd (omega arith)
appended_last (y ∷ xs) x zero h = absurd (omega arith)
appended_last (y ∷ xs) x (suc i) h = appended_last xs x i (omega arith)

-- one fraction more
pub parts_more : (n : ℕ) (num : ℕ → ℤ) (den : ℕ → ℕ) (xs : List Frac) (x : Frac) → HaveParts n num den xs → numerator x ≡ num n → denominator x ≡ den n → HaveParts (n + 1) num den (xs ++ x ∷ [])
parts_more n num den xs x h e f = record {
  count = length-append xs (x ∷ []) ∙ (let c = h.count in omega arith);
  nums = λ i q. elim (earlier_or_here i n q) [
    | inl l ↦ ap (λ (z : Frac). numerator z) (appended_before xs x i (let c = h.count in omega arith)) ∙ h.nums i l
    | inr s ↦ ap (λ (z : Frac). numerator z) (appended_last xs x i (s ∙ sym h.count)) ∙ e ∙ ap num (sym s)
  ];
  dens = λ i q. elim (earlier_or_here i n q) [
    | inl l ↦ ap (λ (z : Frac). denominator z) (appended_before xs x i (let c = h.count in omega arith)) ∙ h.dens i l
    | inr s ↦ ap (λ (z : Frac). denominator z) (appended_last xs x i (s ∙ sym h.count)) ∙ f ∙ ap den (sym s)
  ];
}

pub length-set : (xs : List Frac) (i : ℕ) (x : Frac) → length (set xs i x) ≡ length xs
length-set [] i x = refl
length-set (y ∷ xs) zero x = refl
length-set (y ∷ xs) (suc i) x = omega (arith, length-set xs i x)

pub set_here : (xs : List Frac) (i : ℕ) (x : Frac) → i < length xs → frac_at (set xs i x) i ≡ x
set_here [] i x h = absurd (omega arith)
set_here (y ∷ xs) zero x h = refl
set_here (y ∷ xs) (suc i) x h = set_here xs i x (omega arith)

pub set_there : (xs : List Frac) (i j : ℕ) (x : Frac) → j ≢ i → frac_at (set xs i x) j ≡ frac_at xs j
set_there [] i j x n = refl
set_there (y ∷ xs) zero zero x n = absurd (n refl)
set_there (y ∷ xs) zero (suc j) x n = refl
set_there (y ∷ xs) (suc i) zero x n = refl
set_there (y ∷ xs) (suc i) (suc j) x n = set_there xs i j x (λ e. n (ap suc e))

pub spread_none : (n : ℕ) (cs : List ℕ) (xs ys : List Frac) → HaveParts n (λ _. pos 0) (λ _. 1) ys → IsSpreadTo 0 n cs xs ys
spread_none n cs xs ys h = record { count = h.count; here = λ i q b. absurd (omega arith); elsewhere = λ c q f. h.nums c q; whole = λ c q f. h.dens c q }

-- the number at place k is put at its column
pub spread_put : (k n : ℕ) (cs : List ℕ) (xs ys : List Frac) → NoneTwice cs → k < length cs → column_at cs k < n → IsSpreadTo k n cs xs ys → IsSpreadTo (k + 1) n cs xs (set ys (column_at cs k) (frac_at xs k))
spread_put k n cs xs ys once inside below h = record {
  count = length-set ys (column_at cs k) (frac_at xs k) ∙ h.count;
  here = λ i q b. elim (earlier_or_here i k q) [
    | inl l ↦ set_there ys (column_at cs k) (column_at cs i) (frac_at xs k) (λ e. let s = once.once i k (omega arith) inside e in omega arith) ∙ h.here i l b
    | inr e ↦ subst (λ (z : ℕ). frac_at (set ys (column_at cs k) (frac_at xs k)) (column_at cs z) ≡ frac_at xs z) (sym e) (set_here ys (column_at cs k) (frac_at xs k) (let c = h.count in omega arith))
  ];
  elsewhere = λ c q f. ap (λ (z : Frac). numerator z) (set_there ys (column_at cs k) c (frac_at xs k) (λ e. f k (omega arith) (sym e))) ∙ h.elsewhere c q (λ i l e. f i (omega arith) e);
  whole = λ c q f. ap (λ (z : Frac). denominator z) (set_there ys (column_at cs k) c (frac_at xs k) (λ e. f k (omega arith) (sym e))) ∙ h.whole c q (λ i l e. f i (omega arith) e);
}

-- or it has no place
pub spread_skip : (k n : ℕ) (cs : List ℕ) (xs ys : List Frac) → n ≤ column_at cs k → IsSpreadTo k n cs xs ys → IsSpreadTo (k + 1) n cs xs ys
spread_skip k n cs xs ys past h = record {
  count = h.count;
  here = λ i q b. elim (earlier_or_here i k q) [
    | inl l ↦ h.here i l b
    | inr e ↦ absurd (let m : column_at cs i ≡ column_at cs k = ap (column_at cs) e in omega arith)
  ];
  elsewhere = λ c q f. h.elsewhere c q (λ i l e. f i (omega arith) e);
  whole = λ c q f. h.whole c q (λ i l e. f i (omega arith) e);
}
