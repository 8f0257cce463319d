-- A tuple stands where its numbers tell.
use Rattle.std.proofs.Common.{◌≡◌, ℕ, zero, suc, ◌+◌, ◌-◌, ◌≤◌, ◌<◌, ◌⊎◌, inl, inr, Bool, true, false, not, cond, nat_lt, List, [], ◌∷◌, map, flat_map, take, length, position, slice_get, slice_index_or, Option, None, Some, option_map, refl, sym, ap, ◌∙◌, subst, arith, length-append}
use Rattle.std.proofs.lemmas.Option.{slice_get-map}
use Rattle.std.proofs.lemmas.Bool.Decides.{nat_tests}
use Rattle.std.proofs.lemmas.List.Quantifiers.{position-Some}
use Rattle.std.specs.List.{position_or_len}
use Rattle.raml_syntax.specs.Tree.{Type'}
use Rattle.base_poly.specs.Plain.{Plain, deg, degrees, alike}
use Rattle.base_poly.specs.Indices.{AreIndices, tuples_up_to, index_list}
use Rattle.base_poly.specs.Base.{total}
use Rattle.base_poly.specs.Total.{alike_is, alike_self}
use Rattle.base_poly.proofs.Among.{Among, among_contains}
use Rattle.base_poly.proofs.Exact.{exact, sound_tuples, whole_tuples}
use Rattle.index_shift.specs.Tables.{fits, listed}
use Rattle.index_shift.proofs.Exactly.{exactly, behind_one, many_behind, ahead, lower, in_two}
use Rattle.index_shift.proofs.Spots.{counts_behind, get_two, places_are_counted}
use Rattle.index_shift.proofs.Steps.{listed_at}
use Rattle.index_shift.proofs.Tabled.{all_lower}
use Rattle.index_shift.proofs.Shorter.{back_few}
use Rattle.tuple_ranks.specs.Columns.{sizes, count, lower_count, Column, columns, table, up_to, before as before_in, standing, led_by, stands, place_by, place, degree_at, degree_by}
use Rattle.tuple_ranks.specs.Numbers.{number, numbers}
use Rattle.tuple_ranks.specs.Spots.{spot}

none_more : (k : ℕ) → 0 + k ≡ k
none_more k = omega arith

-- Counts

-- n tells how many tuples of As have a degree
module _ (As : List Type') (d : ℕ) (n : ℕ → ℕ) (tells : (r : ℕ) → r ≤ d → n r ≡ length (exactly As r)) where
  fits_is : (g : ℕ) (x : List Plain) → g ≤ d → fits n g (degrees x) ≡ many_behind As g x
  fits_is g x low = ap (cond (nat_lt g (degrees x)) 0) (tells (g - degrees x) (omega (arith, low)))

  all_is : (g : ℕ) (xs : List (List Plain)) → g ≤ d → total (fits n g) (map degrees xs) ≡ length (flat_map (behind_one As g) xs)
  all_is g [] low = refl
  all_is g (x ∷ xs) low =
      (λ i. (fits_is g x low ∙ sym (counts_behind As g x)) i + all_is g xs low i) ∙ sym (length-append (behind_one As g x) (flat_map (behind_one As g) xs))

  before_is : (g : ℕ) (xs : List (List Plain)) (k : ℕ) → g ≤ d → total (fits n g) (take k (map degrees xs)) ≡ ahead (many_behind As g) xs k
  before_is g [] zero low = refl
  before_is g [] (suc k) low = refl
  before_is g (y ∷ xs) zero low = refl
  before_is g (y ∷ xs) (suc k) low = λ i. fits_is g y low i + before_is g xs k low i

pub count_is : (As : List Type') (d g : ℕ) → g ≤ d → count (sizes As d) g ≡ length (exactly As g)
count_is [] d zero low = refl
count_is [] d (suc g) low = refl
count_is (A ∷ As) d g low = all_is As d (count (sizes As d)) (λ r l. count_is As d r l) g (tuples_up_to (A ∷ []) d) low ∙ ap length (sym (in_two (A ∷ []) As g d low))

pub lower_is : (As : List Type') (d g : ℕ) → g ≤ suc d → lower_count (sizes As d) g ≡ lower As g
lower_is As d zero low = refl
lower_is As d (suc g) low = λ i. lower_is As d g (omega (arith, low)) i + count_is As d g (omega (arith, low)) i

pub size_is : (As : List Type') (d : ℕ) → lower_count (sizes As d) (1 + d) ≡ length (index_list As d)
size_is As d = lower_is As d (1 + d) (omega arith) ∙ ap (lower As) one ∙ all_lower As d
  where
    one : 1 + d ≡ suc d
    one = omega arith

pub up_to_is : (As : List Type') (d g : ℕ) → g ≤ d → up_to (table As d) g ≡ length (index_list As g)
up_to_is As d g low =
    listed_at (lower_count (sizes As d)) 0 (2 + d) (1 + g) 0 (omega (arith, low)) ∙ ap (lower_count (sizes As d)) (none_more (1 + g)) ∙ lower_is As d (1 + g) (omega (arith, low))
    ∙ ap (lower As) one ∙ all_lower As g
  where
    one : 1 + g ≡ suc g
    one = omega arith

-- Members of lists

-- where a list has a tuple, it stands at its place
pub found : (ts : List (List Plain)) (x : List Plain) → Among x ts → slice_get ts (position_or_len (alike x) ts) ≡ Some x
found [] x m = absurd m
found (t ∷ ts) x m = by (alike x t) refl (found ts x)
  where
    next : (p : ℕ) → 1 + p ≡ suc p
    next p = omega arith

    later : alike x t ≡ false → (t ≡ x) ⊎ Among x ts → Among x ts
    later e (inl s) = absurd (let same : alike x x ≡ false = ap (alike x) (sym s) ∙ e in clash (sym (alike_self x) ∙ same))
      where
        clash : true ≡ false → ⊥
        clash h = cc
    later e (inr n) = n

    by : (b : Bool) → alike x t ≡ b → (Among x ts → slice_get ts (position_or_len (alike x) ts) ≡ Some x) → slice_get (t ∷ ts) (cond (not (alike x t)) (1 + position_or_len (alike x) ts) 0) ≡ Some x
    by true e more = (λ i. slice_get (t ∷ ts) (cond (not (e i)) (1 + position_or_len (alike x) ts) 0)) ∙ ap Some (sym (alike_is x t e))
    by false e more = (λ i. slice_get (t ∷ ts) (cond (not (e i)) (1 + position_or_len (alike x) ts) 0)) ∙ ap (slice_get (t ∷ ts)) (next (position_or_len (alike x) ts)) ∙ more (later e m)

-- what stands at its place is the tuple
is_found : (ts : List (List Plain)) (x y : List Plain) → slice_get ts (position_or_len (alike x) ts) ≡ Some y → Among x ts
is_found [] x y h = absurd (none h)
  where
    none : None ≡ Some y → ⊥
    none e = cc
is_found (t ∷ ts) x y h = by (alike x t) refl (is_found ts x y)
  where
    next : (p : ℕ) → suc p ≡ 1 + p
    next p = omega arith

    by : (b : Bool) → alike x t ≡ b → (slice_get ts (position_or_len (alike x) ts) ≡ Some y → Among x ts) → Among x (t ∷ ts)
    by true e more = inl (sym (alike_is x t e))
    by false e more = inr (more (ap (slice_get (t ∷ ts)) (next (position_or_len (alike x) ts)) ∙ (λ i. slice_get (t ∷ ts) (cond (not (sym e i)) (1 + position_or_len (alike x) ts) 0)) ∙ h))

absent : (ts : List (List Plain)) (x : List Plain) → (Among x ts → ⊥) → position_or_len (alike x) ts ≡ length ts
absent [] x never = refl
absent (t ∷ ts) x never = by (alike x t) refl (absent ts x (λ m. never (inr m)))
  where
    next : (p : ℕ) → 1 + p ≡ suc p
    next p = omega arith

    by : (b : Bool) → alike x t ≡ b → position_or_len (alike x) ts ≡ length ts → cond (not (alike x t)) (1 + position_or_len (alike x) ts) 0 ≡ length (t ∷ ts)
    by true e more = absurd (never (inl (sym (alike_is x t e))))
    by false e more = (λ i. cond (not (e i)) (1 + position_or_len (alike x) ts) 0) ∙ next (position_or_len (alike x) ts) ∙ ap suc more

-- Where the r-th tuple of exactly its degree stands among all
spot_is : (As : List Type') (d r : ℕ) (t : List Plain) → degrees t ≤ d → slice_get (exactly As (degrees t)) r ≡ Some t →
    (spot As d t ≡ lower As (degrees t) + r) × (lower As (degrees t) + r < length (index_list As d))
spot_is As d r t low at = (shown (nat_lt (spot As d t) (length (index_list As d))) (spot As d t) (lower As (degrees t) + r) position_is, (position-Some (alike t) (index_list As d) _ [] position_is).0)
  where
    shown : (b : Bool) (s q : ℕ) → cond b (Some s) None ≡ Some q → s ≡ q
    shown true s q h = cc
    shown false s q h = absurd (apart h)
      where
        apart : None ≡ Some q → ⊥
        apart e = cc

    start : lower As (0 + (0 + degrees t)) + 0 + (0 + r) ≡ lower As (degrees t) + r
    start = let same = ap (lower As) zeros in omega (arith, same)
      where
        zeros : 0 + (0 + degrees t) ≡ degrees t
        zeros = omega arith

    position_is : position (alike t) (index_list As d) ≡ Some (lower As (degrees t) + r)
    position_is = places_are_counted [] [] As d [] 0 [] 0 (degrees t) t r (omega (arith, low)) refl refl at ∙ ap Some start

-- a degree and a number that are not too great
does_stand : (d g n : ℕ) → g ≤ d → n < 65536 → standing d g n ≡ Some (g, n)
does_stand d g n low few = (λ i. cond (not_past i) None (cond (is_few i) (Some (g, n)) None))
  where
    not_past : nat_lt d g ≡ false
    not_past = grind (arith, nat_tests, low)

    is_few : nat_lt n 65536 ≡ true
    is_few = grind (arith, nat_tests, few)

-- the numbers of what is behind are read from a table
read_is : (As : List Type') (d r : ℕ) → r ≤ d → slice_index_or (listed (count (sizes As d)) 0 (1 + d)) r 0 ≡ length (exactly As r)
read_is As d r low = listed_at (count (sizes As d)) 0 (1 + d) r 0 (omega (arith, low)) ∙ ap (count (sizes As d)) (none_more r) ∙ count_is As d r low

-- where a tuple stands, and that it does
abbrev StandsThere : List Type' → ℕ → List Plain → Type 0
StandsThere As d t = (r : ℕ) × (stands d (columns d (sizes As d)) (numbers As d t) ≡ Some (degrees t, r)) × (slice_get (exactly As (degrees t)) r ≡ Some t)

module _ (A : Type') (As : List Type') (d : ℕ) (few : length (index_list (A ∷ As) d) ≤ 2000) (i : Plain) (t : List Plain) (h : AreIndices (i ∷ t) (A ∷ As)) (low : degrees (i ∷ t) ≤ d) (rest : StandsThere As d t) where
  abbrev ts : List (List Plain)
  ts = tuples_up_to (A ∷ []) d

  abbrev x : List Plain
  x = i ∷ []

  abbrev n : ℕ
  n = number A d i

  alone : degrees x ≡ deg i
  alone = omega arith

  whole : degrees x + degrees t ≡ degrees (i ∷ t)
  whole = omega arith

  abbrev r : ℕ
  r = rest.0

  at_n : slice_get ts n ≡ Some x
  at_n = found ts x (whole_tuples (A ∷ []) d x (h.0, tt) (omega (arith, low)))

  abbrev b : ℕ
  b = ahead (many_behind As (degrees x + degrees t)) ts n

  there_two : slice_get (exactly (A ∷ As) (degrees x + degrees t)) (b + r) ≡ Some (i ∷ t)
  there_two = get_two (A ∷ []) As d x n (degrees t) t r (omega (arith, low)) at_n rest.2

  there : slice_get (exactly (A ∷ As) (degrees (i ∷ t))) (b + r) ≡ Some (i ∷ t)
  there = subst (λ g. slice_get (exactly (A ∷ As) g) (b + r) ≡ Some (i ∷ t)) whole there_two

  small : b + r < 65536
  small = let h = (spot_is (A ∷ As) d (b + r) (i ∷ t) low there).1 in omega (arith, h, few)

  size : slice_get (map degrees ts) n ≡ Some (degrees x)
  size = slice_get-map degrees ts n ∙ ap (option_map degrees) at_n

  abbrev c : Column
  c = record { sizes = map degrees ts; behind = listed (count (sizes As d)) 0 (1 + d) }

  before : before_in c (degrees x + degrees t) n ≡ b
  before = before_is As d (λ r. slice_index_or c.behind r 0) (λ r l. read_is As d r l) (degrees x + degrees t) ts n (omega (arith, low))

  standing_is : stands d (columns d (sizes (A ∷ As) d)) (numbers (A ∷ As) d (i ∷ t)) ≡ Some (degrees (i ∷ t), b + r)
  standing_is =
      (λ j. led_by d c n (size j) (rest.1 j))
      ∙ (λ j. standing d (degrees x + degrees t) (before j + r))
      ∙ does_stand d (degrees x + degrees t) (b + r) (omega (arith, low)) small
      ∙ ap (λ g. Some (g, b + r)) whole

  one_more_stands : StandsThere (A ∷ As) d (i ∷ t)
  one_more_stands = (b + r, standing_is, there)

-- A tuple of the context stands where its numbers tell.
stands_there : (As : List Type') (d : ℕ) → length (index_list As d) ≤ 2000 → (t : List Plain) → AreIndices t As → degrees t ≤ d → StandsThere As d t
stands_there [] d few [] h low = (0, refl, refl)
stands_there [] d few (i ∷ t) h low = absurd h
stands_there (A ∷ As) d few [] h low = absurd h
stands_there (A ∷ As) d few (i ∷ t) h low =
    let more = back_few (A ∷ []) As d in
    one_more_stands A As d few i t h low (stands_there As d (omega (arith, few, more)) t h.1 (omega (arith, low)))

-- Numbers that stand somewhere are those of a tuple of the context.
is_there : (As : List Type') (d : ℕ) (t : List Plain) (s : ℕ × ℕ) → stands d (columns d (sizes As d)) (numbers As d t) ≡ Some s → AreIndices t As × (degrees t ≡ s.0) × (s.0 ≤ d)
is_there [] d [] s h = (tt, ap (λ o. degree_in o) h, (let z : 0 ≡ s.0 = ap (λ o. degree_in o) h in omega (arith, z)))
  where
    degree_in : Option (ℕ × ℕ) → ℕ
    degree_in (Some s) = s.0
    degree_in None = 0
is_there [] d (i ∷ t) s h = absurd (none h)
  where
    none : None ≡ Some s → ⊥
    none e = cc
is_there (A ∷ As) d [] s h = absurd (none h)
  where
    none : None ≡ Some s → ⊥
    none e = cc
is_there (A ∷ As) d (i ∷ t) s h = by (slice_get (map degrees ts) (number A d i)) (stands d (columns d (sizes As d)) (numbers As d t)) refl (λ q f. is_there As d t q f) h
  where
    ts : List (List Plain)
    ts = tuples_up_to (A ∷ []) d

    c : Column
    c = record { sizes = map degrees ts; behind = listed (count (sizes As d)) 0 (1 + d) }

    n : ℕ
    n = number A d i

    none : None ≡ Some s → ⊥
    none e = cc

    same : (x y : ℕ × ℕ) → Some x ≡ Some y → x ≡ y
    same x y e = cc

    low : (g m : ℕ) → standing d g m ≡ Some s → (g ≡ s.0) × (g ≤ d)
    low g m e = past (nat_lt d g) refl e
      where
        few : (b : Bool) → cond b (Some (g, m)) None ≡ Some s → g ≡ s.0
        few true e = ap (λ (s : ℕ × ℕ). s.0) (same (g, m) s e)
        few false e = absurd (none e)

        past : (b : Bool) → nat_lt d g ≡ b → cond b None (cond (nat_lt m 65536) (Some (g, m)) None) ≡ Some s → (g ≡ s.0) × (g ≤ d)
        past true f e = absurd (none e)
        past false f e = (few (nat_lt m 65536) e, grind (arith, nat_tests, f))

    one : (o : Option (List Plain)) → slice_get ts n ≡ o → (p : ℕ) → option_map degrees o ≡ Some p → Among (i ∷ []) ts × (p ≡ degrees (i ∷ []))
    one None e p h = absurd (cut h)
      where
        cut : None ≡ Some p → ⊥
        cut e = cc
    one (Some y) e p h = (is_found ts (i ∷ []) y e, sym (the (degrees y) p h) ∙ ap degrees (is_it (found ts (i ∷ []) (is_found ts (i ∷ []) y e))))
      where
        the : (a b : ℕ) → Some a ≡ Some b → a ≡ b
        the a b e = cc

        they : (a b : List Plain) → Some a ≡ Some b → a ≡ b
        they a b e = cc

        is_it : slice_get ts n ≡ Some (i ∷ []) → y ≡ i ∷ []
        is_it f = they y (i ∷ []) (sym e ∙ f)

    by : (o : Option ℕ) (r : Option (ℕ × ℕ)) → slice_get (map degrees ts) n ≡ o → ((q : ℕ × ℕ) → r ≡ Some q → AreIndices t As × (degrees t ≡ q.0) × (q.0 ≤ d)) →
        led_by d c n o r ≡ Some s → AreIndices (i ∷ t) (A ∷ As) × (degrees (i ∷ t) ≡ s.0) × (s.0 ≤ d)
    by None r e f h = absurd (none h)
    by (Some p) None e f h = absurd (none h)
    by (Some p) (Some q) e f h =
        let rest = f q refl in
        let first = one (slice_get ts n) refl p (sym (slice_get-map degrees ts n) ∙ e) in
        let right = low (p + q.0) _ h in
        let index = sound_tuples (A ∷ []) d (i ∷ []) first.0 in
        let a = first.1 in
        let b = rest.1 in
        let g = right.0 in
        let l = right.1 in
        ((index.0.0, rest.0), omega (arith, a, b, g), omega (arith, g, l))

-- So the place of its numbers is that of the tuple.
pub places_are_spots : (As : List Type') (d : ℕ) → length (index_list As d) ≤ 2000 → (t : List Plain) → place (table As d) (numbers As d t) ≡ spot As d t
places_are_spots As d few t = by (stands d (columns d (sizes As d)) (numbers As d t)) refl
  where
    start : (g : ℕ) → g ≤ d → slice_index_or (listed (lower_count (sizes As d)) 0 (2 + d)) g 0 ≡ lower As g
    start g low = listed_at (lower_count (sizes As d)) 0 (2 + d) g 0 (omega (arith, low)) ∙ ap (lower_count (sizes As d)) (none_more g) ∙ lower_is As d g (omega (arith, low))

    not_there : stands d (columns d (sizes As d)) (numbers As d t) ≡ None → Among t (index_list As d) → ⊥
    not_there e m =
        let h = ((exact As d).exactly t).0 (among_contains t (index_list As d) m) in
        apart (sym e ∙ (stands_there As d few t h.0 h.1).1)
      where
        apart : {s : ℕ × ℕ} → None ≡ Some s → ⊥
        apart e = cc

    same : (x y : ℕ × ℕ) → Some x ≡ Some y → x ≡ y
    same x y e = cc

    by : (o : Option (ℕ × ℕ)) → stands d (columns d (sizes As d)) (numbers As d t) ≡ o → place_by (table As d) (stands d (columns d (sizes As d)) (numbers As d t)) ≡ spot As d t
    by None e = ap (place_by (table As d)) e ∙ up_to_is As d d (omega arith) ∙ sym (absent (index_list As d) t (not_there e))
    by (Some s) e =
        let h = is_there As d t s e in
        let g = h.1 in
        let l = h.2 in
        let low : degrees t ≤ d = omega (arith, g, l) in
        let v = stands_there As d few t h.0 low in
        ap (place_by (table As d)) v.1 ∙ (λ i. start (degrees t) low i + v.0) ∙ sym (spot_is As d v.0 t low v.2).0

-- and their degree is the tuple's
pub degrees_are : (As : List Type') (d : ℕ) → length (index_list As d) ≤ 2000 → (t : List Plain) → Among t (index_list As d) → degree_at (table As d) (numbers As d t) ≡ degrees t
degrees_are As d few t m = let h = ((exact As d).exactly t).0 (among_contains t (index_list As d) m) in ap degree_by (stands_there As d few t h.0 h.1).1
