-- Steps of the loops that make tables and maps.
use Rattle.std.proofs.Common.{◌≡◌, ◌≤◌, ◌<◌, ℕ, zero, suc, ◌+◌, ◌-◌, List, [], ◌∷◌, ◌++◌, map, slice_index_or, sym, ap, ◌∙◌, arith, append_assoc}
use Rattle.std.proofs.lemmas.List.{map-append}
use Rattle.base_poly.specs.Base.{total}
use Rattle.index_shift.specs.Lift.{Counts, Middle, State, rows, of_before, of_degrees}
use Rattle.index_shift.specs.Tables.{how_many, fits, sums, listed, lows, AreTables}

rows_more : (go : ℕ → State → State) (y m : ℕ) (s : State) → 0 < m → rows go y m s ≡ rows go (y + 1) (m - 1) (go y s)
rows_more go y zero s h = absurd (omega (arith, h))
rows_more go y (suc m) s h = λ n. rows go (next n) (less n) (go y s)
  where
    next : suc y ≡ y + 1
    next = omega arith

    less : m ≡ suc m - 1
    less = omega arith

pub rows_step : (go : ℕ → State → State) (y n end : ℕ) (s t whole : State) → end ≡ n → y < end → t ≡ go y s → rows go y (n - y) s ≡ whole → rows go (y + 1) (n - (y + 1)) t ≡ whole
rows_step go y n end s t whole same below new done =
    (λ i. rows go (y + 1) (less i) (new i)) ∙ sym (rows_more go y (n - y) s (omega (arith, same, below))) ∙ done
  where
    less : n - (y + 1) ≡ n - y - 1
    less = omega arith

degrees_more : (c : Counts) (ms : List Middle) (g m : ℕ) (s : State) → 0 < m → of_degrees c ms g m s ≡ of_degrees c ms (g + 1) (m - 1) (of_before c ms g 0 c.before s)
degrees_more c ms g zero s h = absurd (omega (arith, h))
degrees_more c ms g (suc m) s h = λ n. of_degrees c ms (next n) (less n) (of_before c ms g 0 c.before s)
  where
    next : 1 + g ≡ g + 1
    next = omega arith

    less : m ≡ suc m - 1
    less = omega arith

pub degrees_step : (c : Counts) (ms : List Middle) (g n : ℕ) (s t whole : State) → g < n → t ≡ of_before c ms g 0 c.before s → of_degrees c ms g (n - g) s ≡ whole → of_degrees c ms (g + 1) (n - (g + 1)) t ≡ whole
degrees_step c ms g n s t whole below new done =
    (λ i. of_degrees c ms (g + 1) (less i) (new i)) ∙ sym (degrees_more c ms g (n - g) s (omega (arith, below))) ∙ done
  where
    less : n - (g + 1) ≡ n - g - 1
    less = omega arith

-- Tables

module _ {X : Type 0} (f : ℕ → X) where
  listed_more : (g n : ℕ) → 0 < n → listed f g n ≡ f g ∷ listed f (g + 1) (n - 1)
  listed_more g zero h = absurd (omega (arith, h))
  listed_more g (suc n) h = λ i. f g ∷ listed f (next i) (less i)
    where
      next : 1 + g ≡ g + 1
      next = omega arith

      less : n ≡ suc n - 1
      less = omega arith

  pub listed_step : (old new whole : List X) (g n : ℕ) (x : X) → g < n → x ≡ f g → new ≡ old ++ x ∷ [] → old ++ listed f g (n - g) ≡ whole → new ++ listed f (g + 1) (n - (g + 1)) ≡ whole
  listed_step old new whole g n x below is made done =
      (λ i. made i ++ listed f (g + 1) (less i)) ∙ append_assoc old (x ∷ []) (listed f (g + 1) (n - g - 1)) ∙ (λ i. old ++ (is i ∷ listed f (g + 1) (n - g - 1)))
      ∙ ap (λ l. old ++ l) (sym (listed_more g (n - g) (omega (arith, below)))) ∙ done
    where
      less : n - (g + 1) ≡ n - g - 1
      less = omega arith

  pub listed_at : (from n k : ℕ) (d : X) → k < n → slice_index_or (listed f from n) k d ≡ f (from + k)
  listed_at from zero k d h = absurd (omega (arith, h))
  listed_at from (suc n) zero d h = ap f none
    where
      none : from ≡ from + 0
      none = omega arith
  listed_at from (suc n) (suc k) d h = listed_at (1 + from) n k d (omega (arith, h)) ∙ ap f next
    where
      next : 1 + from + k ≡ from + suc k
      next = omega arith

pub map_made : {X Y : Type 0} (v : X → Y) (old new : List X) (x : X) → new ≡ old ++ x ∷ [] → map v new ≡ map v old ++ v x ∷ []
map_made v old new x made = ap (map v) made ∙ map-append v old (x ∷ [])

pub lows_more : (n : ℕ → ℕ) (xs : List ℕ) (h : ℕ) → lows n xs h + total (fits n h) xs ≡ lows n xs (h + 1)
lows_more n xs h = ap (lows n xs) next
  where
    next : suc h ≡ h + 1
    next = omega arith

pub are_tables : (xs es bs : List ℕ) (d : ℕ) (c : Counts) (after inner : List ℕ) (second first : List (List ℕ)) → c.before ≡ xs → ((r : ℕ) → c.after r ≡ slice_index_or after r 0) →
    ((g m : ℕ) → c.second g m ≡ slice_index_or (slice_index_or second g []) m 0) → ((h k : ℕ) → c.first h k ≡ slice_index_or (slice_index_or first h []) k 0) →
    after ≡ listed (λ r. how_many r bs) 0 (1 + d) → second ≡ listed (λ g. sums (fits c.after g) 0 es) 0 (1 + d) → inner ≡ listed (λ g. total (fits c.after g) es) 0 (1 + d) →
    first ≡ listed (λ h. sums (fits (λ r. slice_index_or inner r 0) h) (lows (λ r. slice_index_or inner r 0) xs h) xs) 0 (1 + d) → AreTables xs es bs d c
are_tables xs es bs d c after inner second first is_xs is_after is_second is_first made_after made_second made_inner made_first = record {
  inner = λ r. slice_index_or inner r 0;
  is_before = is_xs;
  is_after = λ r low. is_after r ∙ at_degree (λ r. how_many r bs) after r 0 made_after low;
  is_inner = λ g low. at_degree (λ g. total (fits c.after g) es) inner g 0 made_inner low;
  is_second = λ g m low. is_second g m ∙ ap (λ l. slice_index_or l m 0) (at_degree (λ g. sums (fits c.after g) 0 es) second g [] made_second low);
  is_first = λ h k low. is_first h k ∙ ap (λ l. slice_index_or l k 0)
      (at_degree (λ h. sums (fits (λ r. slice_index_or inner r 0) h) (lows (λ r. slice_index_or inner r 0) xs h) xs) first h [] made_first low);
}
  where
    none : (n : ℕ) → 0 + n ≡ n
    none n = omega arith

    at_degree : {X : Type 0} (f : ℕ → X) (made : List X) (k : ℕ) (x : X) → made ≡ listed f 0 (1 + d) → k ≤ d → slice_index_or made k x ≡ f k
    at_degree f made k x is low = ap (λ l. slice_index_or l k x) is ∙ listed_at f 0 (1 + d) k x (omega (arith, low)) ∙ ap f (none k)
