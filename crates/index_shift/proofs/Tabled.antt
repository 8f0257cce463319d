-- Tables of sums are the numbers of a context, and tell how many indices it has.
use Rattle.std.proofs.Common.{◌≡◌, ◌≤◌, ◌<◌, ℕ, zero, suc, ◌+◌, ◌-◌, ◌⊎◌, ⊎_elim, Bool, true, false, cond, nat_eq, nat_lt, List, [], ◌∷◌, ◌++◌, map, flat_map, filter, length, slice_get, slice_index_or, None, Some, refl, sym, ap, ◌∙◌, subst, arith, length-append}
use Rattle.raml_syntax.specs.Tree.{Type'}
use Rattle.base_poly.specs.Plain.{Plain, degrees}
use Rattle.base_poly.specs.Indices.{tuples_up_to, index_list}
use Rattle.base_poly.specs.Base.{total}
use Rattle.base_poly.proofs.Sized.{as_long_as_rests}
use Rattle.index_shift.specs.Maps.{Carry, behind, entries}
use Rattle.index_shift.specs.Lift.{Counts, Middle, lifted}
use Rattle.index_shift.specs.Local.{StandsBetween}
use Rattle.index_shift.specs.declared.entry.Entry.{Entry}
use Rattle.index_shift.specs.Tables.{how_many, fits, sums, listed, lows, AreTables, AreDegrees}
use Rattle.index_shift.proofs.Exactly.{exactly, each_degree, behind_one, many_behind, ahead, lower, of_degree, by_degrees, in_two}
use Rattle.index_shift.proofs.Lifts.{AreCounts, maps_are_lifted}
use Rattle.index_shift.proofs.Spots.{counts_behind}
use Rattle.index_shift.proofs.Steps.{listed_at}

counted : (r : ℕ) (ts : List (List Plain)) → length (filter (λ t. nat_eq (degrees t) r) ts) ≡ how_many r (map degrees ts)
counted r [] = refl
counted r (t ∷ ts) = at (nat_eq (degrees t) r) (counted r ts)
  where
    at : (b : Bool) → length (filter (λ t. nat_eq (degrees t) r) ts) ≡ how_many r (map degrees ts) →
        length (cond b (t ∷ filter (λ t. nat_eq (degrees t) r) ts) (filter (λ t. nat_eq (degrees t) r) ts)) ≡ cond b (suc (how_many r (map degrees ts))) (how_many r (map degrees ts))
    at true more = ap suc more
    at false more = more

-- n tells how many tuples of Bs have a degree
module _ (Bs : List Type') (d : ℕ) (n : ℕ → ℕ) (tells : (r : ℕ) → r ≤ d → n r ≡ length (exactly Bs r)) where
  fits_is : (g : ℕ) (x : List Plain) → g ≤ d → fits n g (degrees x) ≡ many_behind Bs g x
  fits_is g x low = ap (cond (nat_lt g (degrees x)) 0) (tells (g - degrees x) (omega (arith, low)))

  ahead_is : (g : ℕ) (xs : List (List Plain)) (k : ℕ) → g ≤ d → ahead (fits n g) (map degrees xs) k ≡ ahead (many_behind Bs g) xs k
  ahead_is g [] k low = refl
  ahead_is g (x ∷ xs) zero low = refl
  ahead_is g (x ∷ xs) (suc k) low = λ i. fits_is g x low i + ahead_is g xs k low i

  all_is : (g : ℕ) (xs : List (List Plain)) → g ≤ d → total (fits n g) (map degrees xs) ≡ length (flat_map (behind_one Bs g) xs)
  all_is g [] low = refl
  all_is g (x ∷ xs) low =
      (λ i. (fits_is g x low ∙ sym (counts_behind Bs g x)) i + all_is g xs low i) ∙ sym (length-append (behind_one Bs g x) (flat_map (behind_one Bs g) xs))

  total_is : (As : List Type') (g : ℕ) → g ≤ d → total (fits n g) (map degrees (tuples_up_to As d)) ≡ length (exactly (As ++ Bs) g)
  total_is As g low = all_is g (tuples_up_to As d) low ∙ ap length (sym (in_two As Bs g d low))

  lows_is : (As : List Type') (h : ℕ) → h ≤ suc d → lows n (map degrees (tuples_up_to As d)) h ≡ lower (As ++ Bs) h
  lows_is As zero low = refl
  lows_is As (suc g) low = λ i. lows_is As g (omega (arith, low)) i + total_is As g (omega (arith, low)) i

many_is : (Bs : List Type') (d r : ℕ) → r ≤ d → how_many r (map degrees (tuples_up_to Bs d)) ≡ length (exactly Bs r)
many_is Bs d r low = sym (counted r (tuples_up_to Bs d)) ∙ ap length (of_degree Bs r d low)

sums_at : (f : ℕ → ℕ) (s : ℕ) (xs : List (List Plain)) (k : ℕ) (x : List Plain) → slice_get xs k ≡ Some x → slice_index_or (sums f s (map degrees xs)) k 0 ≡ s + ahead f (map degrees xs) k
sums_at f s [] k x h = absurd (none h)
  where
    none : None ≡ Some x → ⊥
    none e = cc
sums_at f s (y ∷ xs) zero x h = omega arith
sums_at f s (y ∷ xs) (suc k) x h = let more = sums_at f (s + f (degrees y)) xs k x h in omega (arith, more)

module _ (As Ts Bs : List Type') (d : ℕ) (c : Counts) (t : AreTables (map degrees (tuples_up_to As d)) (map degrees (tuples_up_to Ts d)) (map degrees (tuples_up_to Bs d)) d c) where
  after_tells : (r : ℕ) → r ≤ d → c.after r ≡ length (exactly Bs r)
  after_tells r low = t.is_after r low ∙ many_is Bs d r low

  inner_tells : (g : ℕ) → g ≤ d → t.inner g ≡ length (exactly (Ts ++ Bs) g)
  inner_tells g low = t.is_inner g low ∙ total_is Bs d c.after after_tells Ts g low

  they_are : AreCounts As Ts Bs d c
  they_are = record {
    before = t.is_before;
    after = after_tells;
    first = λ h k x low at.
        t.is_first h k low ∙ sums_at (fits t.inner h) (lows t.inner (map degrees (tuples_up_to As d)) h) (tuples_up_to As d) k x at
        ∙ (λ i. lows_is (Ts ++ Bs) d t.inner inner_tells As h (omega (arith, low)) i + ahead_is (Ts ++ Bs) d t.inner inner_tells h (tuples_up_to As d) k low i);
    second = λ g m e low at.
        t.is_second g m low ∙ sums_at (fits c.after g) 0 (tuples_up_to Ts d) m e at ∙ none (ahead (fits c.after g) (map degrees (tuples_up_to Ts d)) m)
        ∙ ahead_is Bs d c.after after_tells g (tuples_up_to Ts d) m low;
  }
    where
      none : (n : ℕ) → 0 + n ≡ n
      none n = omega arith

pub tables_are_counts : (As Ts Bs : List Type') (d : ℕ) (xs es bs : List ℕ) (c : Counts) → AreDegrees As Ts Bs d xs es bs → AreTables xs es bs d c → AreCounts As Ts Bs d c
tables_are_counts As Ts Bs d xs es bs c g t =
    they_are As Ts Bs d c
    (subst (λ l. AreTables l (map degrees (tuples_up_to Ts d)) (map degrees (tuples_up_to Bs d)) d c) g.front
    (subst (λ l. AreTables xs l (map degrees (tuples_up_to Bs d)) d c) g.middle
    (subst (λ l. AreTables xs es l d c) g.back t)))

-- so a map is lifted by them
pub lifted_between : (c : Carry) (As Fs Ts Bs : List Type') (d e : ℕ) (xs olds news bs : List ℕ) (ws : List Middle) (counts : Counts) (es : List Entry) →
    StandsBetween c As Fs Ts Bs d xs (record { degree = e; old = olds; new = news; middles = ws }) bs → AreTables xs news bs e counts → es ≡ lifted counts ws e →
    es ≡ entries (behind (length As) c) (As ++ (Fs ++ Bs)) (As ++ (Ts ++ Bs)) d
lifted_between c As Fs Ts Bs d e xs olds news bs ws counts es h tables made =
    let same = h.local.degree in
    let are = tables_are_counts As Ts Bs d xs news bs counts (record { front = h.before; middle = h.local.new; back = h.after }) (subst (λ n. AreTables xs news bs n counts) same tables) in
    made ∙ ap (lifted counts ws) same ∙ sym (maps_are_lifted c As Fs Ts Bs d counts ws are h.local.middles)

-- How many indices there are

lower_grows : (As : List Type') (h k : ℕ) → h ≤ k → lower As h ≤ lower As k
lower_grows As h zero low = let none : h ≡ 0 = omega (arith, low) in let same = ap (lower As) none in omega (arith, same)
lower_grows As h (suc k) low = ⊎_elim
    (λ e. let same = ap (lower As) e in omega (arith, same))
    (λ g. let more = lower_grows As h k g in omega (arith, more))
    (split low)
  where
    split : h ≤ suc k → (h ≡ suc k) ⊎ (h ≤ k)
    split g = grind arith

pub one_more : (n : ℕ) → 1 + n ≡ suc n
one_more n = omega arith

between_long : (As : List Type') (n from : ℕ) → lower As from + length (each_degree As n from) ≡ lower As (n + from)
between_long As zero from = let same = ap (lower As) (none from) in omega (arith, same)
  where
    none : (n : ℕ) → 0 + n ≡ n
    none n = omega arith
between_long As (suc n) from =
    let a = length-append (exactly As from) (each_degree As n (1 + from)) in
    let b = between_long As n (1 + from) in
    let c = ap (lower As) (one_more from) in
    let e = ap (lower As) (next n from) in omega (arith, a, b, c, e)
  where
    next : (n from : ℕ) → n + (1 + from) ≡ suc n + from
    next n from = omega arith

pub all_lower : (As : List Type') (d : ℕ) → lower As (suc d) ≡ length (index_list As d)
all_lower As d =
    let a = between_long As (1 + d) 0 in
    let b = ap length (by_degrees As d) in
    let c = ap (lower As) (whole d) in omega (arith, a, b, c)
  where
    whole : (d : ℕ) → 1 + d + 0 ≡ suc d
    whole d = omega arith

no_fewer : (As Bs : List Type') (g : ℕ) → length (exactly Bs g) ≤ length (exactly (As ++ Bs) g)
no_fewer [] Bs g = omega arith
no_fewer (A ∷ As) Bs g =
    let a = no_fewer As Bs g in let b = as_long_as_rests (exactly (As ++ Bs)) ◌∷◌ g A in omega (arith, a, b)

among_all : (As : List Type') (g d : ℕ) → g ≤ d → length (exactly As g) ≤ length (index_list As d)
among_all As g d low = let a = lower_grows As (suc g) (suc d) (omega (arith, low)) in let b = all_lower As d in omega (arith, a, b)

module _ (As Ts Bs : List Type') (d most : ℕ) (xs es bs : List ℕ) (g : AreDegrees As Ts Bs d xs es bs) where
  abbrev whole : List Type'
  whole = As ++ (Ts ++ Bs)

  pub past_after : (r : ℕ) × (r ≤ d) × (most < how_many r bs) → most < length (index_list whole d)
  past_after p =
      let a = ap (how_many p.0) g.back ∙ many_is Bs d p.0 p.1 in
      let b = no_fewer Ts Bs p.0 in
      let c = no_fewer As (Ts ++ Bs) p.0 in
      let e = among_all whole p.0 d p.1 in
      let past = p.2 in omega (arith, a, b, c, e, past)

  module _ (after : List ℕ) (made_after : after ≡ listed (λ r. how_many r bs) 0 (1 + d)) where
    abbrev many : ℕ → ℕ
    many r = slice_index_or after r 0

    many_tells : (r : ℕ) → r ≤ d → many r ≡ length (exactly Bs r)
    many_tells r low =
        ap (λ l. slice_index_or l r 0) made_after ∙ listed_at (λ r. how_many r bs) 0 (1 + d) r 0 (omega (arith, low)) ∙ ap (λ k. how_many k bs) (none r)
        ∙ ap (how_many r) g.back ∙ many_is Bs d r low
      where
        none : (n : ℕ) → 0 + n ≡ n
        none n = omega arith

    inner_is : (k : ℕ) → k ≤ d → total (fits many k) es ≡ length (exactly (Ts ++ Bs) k)
    inner_is k low = ap (total (fits many k)) g.middle ∙ total_is Bs d many many_tells Ts k low

    pub past_inner : (k : ℕ) × (k ≤ d) × (most < total (fits many k) es) → most < length (index_list whole d)
    past_inner p =
        let a = inner_is p.0 p.1 in
        let c = no_fewer As (Ts ++ Bs) p.0 in
        let e = among_all whole p.0 d p.1 in
        let past = p.2 in omega (arith, a, c, e, past)

    module _ (inner : List ℕ) (made_inner : inner ≡ listed (λ k. total (fits many k) es) 0 (1 + d)) where
      abbrev total_of : ℕ → ℕ
      total_of k = slice_index_or inner k 0

      total_tells : (k : ℕ) → k ≤ d → total_of k ≡ length (exactly (Ts ++ Bs) k)
      total_tells k low =
          ap (λ l. slice_index_or l k 0) made_inner ∙ listed_at (λ k. total (fits many k) es) 0 (1 + d) k 0 (omega (arith, low)) ∙ ap (λ n. total (fits many n) es) (none k)
          ∙ inner_is k low
        where
          none : (n : ℕ) → 0 + n ≡ n
          none n = omega arith

      lows_are : (h : ℕ) → h ≤ suc d → lows total_of xs h ≡ lower whole h
      lows_are h low = ap (λ l. lows total_of l h) g.front ∙ lows_is (Ts ++ Bs) d total_of total_tells As h low

      pub past_lows : (h : ℕ) × (h ≤ d) × (most < lows total_of xs (1 + h)) → most < length (index_list whole d)
      past_lows p =
          let low = p.1 in
          let a = lows_are (1 + p.0) (omega (arith, low)) in
          let b = lower_grows whole (1 + p.0) (suc d) (omega (arith, low)) in
          let c = all_lower whole d in
          let past = p.2 in omega (arith, a, b, c, past)

      pub few_lows : lows total_of xs (1 + d) ≤ most → length (index_list whole d) ≤ most
      few_lows few =
          let a = lows_are (1 + d) (omega arith) in
          let b = ap (lower whole) (one_more d) in
          let c = all_lower whole d in omega (arith, a, b, c, few)
