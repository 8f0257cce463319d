-- Tables that are made column by column.
use Rattle.std.proofs.Common.{◌≡◌, ◌≤◌, ◌<◌, ◌⊎◌, ⊎_elim, ℕ, zero, suc, ◌+◌, ◌-◌, List, [], ◌∷◌, cond, nat_lt, slice_index_or, Result, Ok, Err, IsErrAnd, refl, sym, ap, ◌∙◌, arith}
use Rattle.base_poly.specs.Base.{total}
use Rattle.base_poly.specs.declared.fault.IndexFault.{IndexFault}
use Rattle.base_poly.specs.declared.fault.IndexFault.TheVariants.{TooMany}
use Rattle.index_shift.specs.Tables.{fits, listed}
use Rattle.index_shift.proofs.Shorter.{back_few}
use Rattle.index_shift.proofs.Steps.{listed_at}
use Rattle.tuple_ranks.specs.Columns.{count, below, lower_count}
use Rattle.tuple_ranks.specs.Spots.{AreSmall, AreLarge}
use Rattle.tuple_ranks.proofs.Ranked.{size_is}

pub of_fault : {T : Type 0} (r : Result T IndexFault) (e : IndexFault) → IsErrAnd r (λ x. x ≡ e) → r ≡ Err TooMany → e ≡ TooMany
of_fault (Ok u) e h g = absurd (cc)
of_fault (Err x) e h g = sym h ∙ (let p : x ≡ TooMany = cc in p)

-- without variables there is one tuple, of degree 0
pub none_higher : (g : ℕ) → 0 < g → 0 ≡ count [] g
none_higher zero h = absurd (omega (arith, h))
none_higher (suc g) h = refl

-- Sums of what is below

pub below_more : (n : ℕ → ℕ) (h : ℕ) → below n h + n h ≡ below n (h + 1)
below_more n h = ap (below n) next
  where
    next : suc h ≡ h + 1
    next = omega arith

below_grows : (n : ℕ → ℕ) (h k : ℕ) → h ≤ k → below n h ≤ below n k
below_grows n h zero low = let none : h ≡ 0 = omega (arith, low) in let same = ap (below n) none in omega (arith, same)
below_grows n h (suc k) low = ⊎_elim
    (λ e. let same = ap (below n) e in omega (arith, same))
    (λ g. let more = below_grows n h k g in omega (arith, more))
    (split low)
  where
    split : h ≤ suc k → (h ≡ suc k) ⊎ (h ≤ k)
    split g = grind arith

below_same : (n m : ℕ → ℕ) (h : ℕ) → ((k : ℕ) → k < h → n k ≡ m k) → below n h ≡ below m h
below_same n m zero same = refl
below_same n m (suc h) same = λ i. below_same n m h (λ k l. same k (omega (arith, l))) i + same h (omega arith) i

listed_same : {X : Type 0} (f g : ℕ → X) (from n : ℕ) → ((k : ℕ) → k < from + n → f k ≡ g k) → listed f from n ≡ listed g from n
listed_same f g from zero same = refl
listed_same f g from (suc n) same = λ i. same from (omega arith) i ∷ listed_same f g (1 + from) n (λ k l. same k (omega (arith, l))) i

-- Numbers read from a table

pub read_is : (n : ℕ → ℕ) (d : ℕ) (numbers : List ℕ) → numbers ≡ listed n 0 (1 + d) → (g : ℕ) → g ≤ d → slice_index_or numbers g 0 ≡ n g
read_is n d numbers made g low = ap (λ l. slice_index_or l g 0) made ∙ listed_at n 0 (1 + d) g 0 (omega (arith, low)) ∙ ap n (none g)
  where
    none : (g : ℕ) → 0 + g ≡ g
    none g = omega arith

module _ (pss : List (List ℕ)) (d : ℕ) (counts : List ℕ) (made : counts ≡ listed (count pss) 0 (1 + d)) where
  abbrev pub read : ℕ → ℕ
  read g = slice_index_or counts g 0

  pub starts_are : listed (below read) 0 (2 + d) ≡ listed (lower_count pss) 0 (2 + d)
  starts_are = listed_same (below read) (lower_count pss) 0 (2 + d) (λ h l. below_same read (count pss) h (λ k m. read_is (count pss) d counts made k (omega (arith, l, m))))

  lows_are : (h : ℕ) → h ≤ 1 + d → below read h ≡ lower_count pss h
  lows_are h low = below_same read (count pss) h (λ k m. read_is (count pss) d counts made k (omega (arith, low, m)))

  pub is_small : below read (1 + d) ≤ 2000 → AreSmall pss d
  is_small few As e = let a = lows_are (1 + d) (omega arith) in let b = size_is As d in let c = ap (λ l. lower_count l (1 + d)) e in omega (arith, a, b, c, few)

  pub is_large : (g : ℕ) × (g ≤ d) × (2000 < below read (1 + g)) → AreLarge pss d
  is_large p As e =
      let low = p.1 in
      let many = p.2 in
      let a = lows_are (1 + p.0) (omega (arith, low)) in
      let b = below_grows (count pss) (1 + p.0) (1 + d) (omega (arith, low)) in
      let c = size_is As d in
      let f = ap (λ l. lower_count l (1 + d)) e in omega (arith, a, b, c, f, many)

  -- with a variable before
  fits_same : (g p : ℕ) → g ≤ d → fits read g p ≡ fits (count pss) g p
  fits_same g p low = ap (cond (nat_lt g p) 0) (read_is (count pss) d counts made (g - p) (omega (arith, low)))

  total_same : (g : ℕ) (ps : List ℕ) → g ≤ d → total (fits read g) ps ≡ total (fits (count pss) g) ps
  total_same g [] low = refl
  total_same g (p ∷ ps) low = λ i. fits_same g p low i + total_same g ps low i

  module _ (ps : List ℕ) where
    pub counts_more : (totals : List ℕ) → totals ≡ listed (λ g. total (fits read g) ps) 0 (1 + d) → totals ≡ listed (count (ps ∷ pss)) 0 (1 + d)
    counts_more totals made_totals =
        made_totals ∙ listed_same (λ g. total (fits read g) ps) (count (ps ∷ pss)) 0 (1 + d) (λ g l. total_same g ps (omega (arith, l)))

    pub large_more : (g : ℕ) × (g ≤ d) × (2000 < total (fits read g) ps) → AreLarge (ps ∷ pss) d
    large_more p As e =
        let low = p.1 in
        let many = p.2 in
        let a = total_same p.0 ps low in
        let b = below_grows (count (ps ∷ pss)) (suc p.0) (1 + d) (omega (arith, low)) in
        let c = size_is As d in
        let f = ap (λ l. lower_count l (1 + d)) e in omega (arith, a, b, c, f, many)

-- what is large behind a variable is large
pub behind_large : (ps : List ℕ) (pss : List (List ℕ)) (d : ℕ) → AreLarge pss d → AreLarge (ps ∷ pss) d
behind_large ps pss d h [] e = absurd (cc)
behind_large ps pss d h (A ∷ As) e = let a = back_few (A ∷ []) As d in let more = h As (ap rest e) in omega (arith, a, more)
  where
    rest : List (List ℕ) → List (List ℕ)
    rest [] = []
    rest (x ∷ xs) = xs
