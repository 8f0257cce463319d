-- Degrees are found without indices.
use Rattle.std.proofs.Common.{◌≡◌, ◌≤◌, ◌<◌, ℕ, zero, suc, ◌+◌, ◌-◌, inl, inr, ⊎_elim, Bool, true, false, cond, nat_le, List, [], ◌∷◌, ◌++◌, map, flat_map, filter, drop, length, get_or, refl, sym, ap, ◌∙◌, arith, length-append, drop-cons}
use Rattle.std.proofs.lemmas.List.{length-map, map-append}
use Rattle.std.proofs.lemmas.Simd.{map-map}
use Rattle.std.proofs.lemmas.Bool.Decides.{nat_tests}
use Rattle.std.proofs.lemmas.Bool.{le-leb}
use Rattle.raml_syntax.specs.Tree.{Type'}
use Rattle.base_poly.specs.Plain.{Plain, Pair, OneEntry, many, deg, degrees}
use Rattle.base_poly.specs.Indices.{tuples_led, pairs_led, lists, options, indices_up_to, tuples_up_to, zero_of}
use Rattle.base_poly.specs.Sizes.{sums_behind, all_sums, list_sums}
use Rattle.base_poly.proofs.Among.{Among}
use Rattle.base_poly.proofs.Exact.{sound, whole}
use Rattle.base_poly.proofs.Longer.{zero_is_index, zero_degree, some_list, joined, longer, enough_entries, lists_step}
use Rattle.base_poly.proofs.Low.{low_indices, low_lists, low_tuples}

-- Kept items

abbrev pub up_to : ℕ → List ℕ → List ℕ
up_to k ns = filter (λ n. nat_le n k) ns

module _ {X : Type 0} (size : X → ℕ) where
  kept_sizes : (k : ℕ) (xs : List X) → map size (filter (λ x. nat_le (size x) k) xs) ≡ up_to k (map size xs)
  kept_sizes k [] = refl
  kept_sizes k (x ∷ xs) = at (nat_le (size x) k) (kept_sizes k xs)
    where
      at : (b : Bool) → map size (filter (λ x. nat_le (size x) k) xs) ≡ up_to k (map size xs) →
          map size (cond b (x ∷ filter (λ x. nat_le (size x) k) xs) (filter (λ x. nat_le (size x) k) xs)) ≡ cond b (size x ∷ up_to k (map size xs)) (up_to k (map size xs))
      at true more = ap (λ l. size x ∷ l) more
      at false more = more

  -- the sizes up to k of all are those of some, which are what is kept
  low_sizes : (k : ℕ) (all some : List X) → filter (λ x. nat_le (size x) k) all ≡ some → map size some ≡ up_to k (map size all)
  low_sizes k all some same = ap (map size) (sym same) ∙ kept_sizes k all

  fewer : (k : ℕ) (xs : List X) → length (filter (λ x. nat_le (size x) k) xs) ≤ length xs
  fewer k [] = omega arith
  fewer k (x ∷ xs) = at (nat_le (size x) k) (fewer k xs)
    where
      at : (b : Bool) → length (filter (λ x. nat_le (size x) k) xs) ≤ length xs → length (cond b (x ∷ filter (λ x. nat_le (size x) k) xs) (filter (λ x. nat_le (size x) k) xs)) ≤ length (x ∷ xs)
      at true more = omega (arith, more)
      at false more = omega (arith, more)

-- Sums

same_tests : (a n d : ℕ) → a ≤ d → nat_le (a + n) d ≡ nat_le n (d - a)
same_tests a n d h = grind (arith, nat_tests, h)

behind_low : (a d : ℕ) (ns : List ℕ) → a ≤ d → sums_behind a d ns ≡ map (λ n. a + n) (up_to (d - a) ns)
behind_low a d [] h = refl
behind_low a d (n ∷ ns) h = at (nat_le n (d - a)) (same_tests a n d h) (behind_low a d ns h)
  where
    at : (b : Bool) → nat_le (a + n) d ≡ b → sums_behind a d ns ≡ map (λ n. a + n) (up_to (d - a) ns) →
        cond (nat_le (a + n) d) ((a + n) ∷ sums_behind a d ns) (sums_behind a d ns) ≡ map (λ n. a + n) (cond b (n ∷ up_to (d - a) ns) (up_to (d - a) ns))
    at true e more = (λ i. cond (e i) ((a + n) ∷ more i) (more i))
    at false e more = (λ i. cond (e i) ((a + n) ∷ more i) (more i))

none_behind : (a d : ℕ) (ns : List ℕ) → d < a → sums_behind a d ns ≡ []
none_behind a d [] h = refl
none_behind a d (n ∷ ns) h = (λ i. cond (past i) ((a + n) ∷ sums_behind a d ns) (sums_behind a d ns)) ∙ none_behind a d ns h
  where
    past : nat_le (a + n) d ≡ false
    past = grind (arith, nat_tests, h)

-- firsts that are too great lead nothing
only_low : (more d top : ℕ) (firsts ns : List ℕ) → top ≡ more + d → all_sums more top (up_to d firsts) ns ≡ all_sums more top firsts ns
only_low more d top [] ns h = refl
only_low more d top (a ∷ firsts) ns h = at (nat_le a d) refl (only_low more d top firsts ns h)
  where
    past : nat_le a d ≡ false → top < more + a
    past e = grind (arith, nat_tests, e, h)

    at : (b : Bool) → nat_le a d ≡ b → all_sums more top (up_to d firsts) ns ≡ all_sums more top firsts ns →
        all_sums more top (cond b (a ∷ up_to d firsts) (up_to d firsts)) ns ≡ sums_behind (more + a) top ns ++ all_sums more top firsts ns
    at true e rest = ap (λ l. sums_behind (more + a) top ns ++ l) rest
    at false e rest = rest ∙ (λ i. sym (none_behind (more + a) top ns (past e)) i ++ all_sums more top firsts ns)

-- Items made of a first and another

module _ {X Y Z : Type 0} (k : X → ℕ) (m : Y → ℕ) (n : Z → ℕ) (both : X → Y → Z) (more : ℕ) (adds : (x : X) (y : Y) → n (both x y) ≡ more + k x + m y) where
  one_led : (x : X) (ys : List Y) → map n (map (λ y. both x y) ys) ≡ map (λ r. more + k x + r) (map m ys)
  one_led x [] = refl
  one_led x (y ∷ ys) = λ i. adds x y i ∷ one_led x ys i

  all_led : (d top : ℕ) (rests : ℕ → List Y) (small : List ℕ) (xs : List X) → top ≡ more + d → ((x : X) → Among x xs → k x ≤ d) → ((g : ℕ) → g ≤ d → map m (rests g) ≡ up_to g small) →
      map n (flat_map (λ x. map (λ y. both x y) (rests (d - k x))) xs) ≡ all_sums more top (map k xs) small
  all_led d top rests small [] h low part = refl
  all_led d top rests small (x ∷ xs) h low part =
      map-append n (map (λ y. both x y) (rests (d - k x))) (flat_map (λ x. map (λ y. both x y) (rests (d - k x))) xs)
      ∙ (λ i. (one_led x (rests (d - k x)) ∙ ap (map (λ r. more + k x + r)) (part (d - k x) (omega arith) ∙ ap (λ g. up_to g small) left) ∙ sym (behind_low (more + k x) top small enough)) i
      ++ all_led d top rests small xs h (λ y g. low y (inr g)) part i)
    where
      enough : more + k x ≤ top
      enough = let e = low x (inl refl) in omega (arith, e, h)

      left : d - k x ≡ top - (more + k x)
      left = let e = low x (inl refl) in omega (arith, e, h)

none_more : (d : ℕ) → d ≡ 0 + d
none_more d = omega arith

pub pairs_sized : (A B : Type') (d : ℕ) → map deg (pairs_led (indices_up_to B) d (indices_up_to A d)) ≡ all_sums 0 d (map deg (indices_up_to A d)) (map deg (indices_up_to B d))
pairs_sized A B d =
    all_led deg deg deg Pair 0 (λ i j. omega arith) d d (indices_up_to B) (map deg (indices_up_to B d)) (indices_up_to A d) (none_more d) (λ i g. (sound A d i g).1)
    (λ g low. low_sizes deg g (indices_up_to B d) (indices_up_to B g) (low_indices B g d low))

pub tuples_sized : (A : Type') (As : List Type') (d : ℕ) → map degrees (tuples_led (tuples_up_to As) d (indices_up_to A d)) ≡ all_sums 0 d (map deg (indices_up_to A d)) (map degrees (tuples_up_to As d))
tuples_sized A As d =
    all_led deg degrees degrees ◌∷◌ 0 (λ i j. omega arith) d d (tuples_up_to As) (map degrees (tuples_up_to As d)) (indices_up_to A d) (none_more d) (λ i g. (sound A d i g).1)
    (λ g low. low_sizes degrees g (tuples_up_to As d) (tuples_up_to As g) (low_tuples As g d low))

abbrev size : List Plain → ℕ
size l = deg (many l)

-- the entries are those up to a degree that is high enough
pub lists_sized : (A : Type') (high d : ℕ) → d ≤ suc high → map size (lists (indices_up_to A) d d) ≡ list_sums (map deg (indices_up_to A high)) d
lists_sized A high zero h = refl
lists_sized A high (suc d) h =
    ap (λ l. 0 ∷ l)
    (all_led deg size size ◌∷◌ 1 (λ i r. refl) d (suc d) (lists (indices_up_to A) d) (list_sums entries d) (indices_up_to A d) next (λ i g. (sound A d i g).1)
    (λ g low. ap (map size) (enough_entries (indices_up_to A) d g g low (omega arith))
    ∙ low_sizes size g (lists (indices_up_to A) d d) (lists (indices_up_to A) g g) (low_lists A g d low)
    ∙ ap (up_to g) (lists_sized A high d (omega (arith, h))))
    ∙ ap (λ firsts. all_sums 1 (suc d) firsts (list_sums entries d)) (low_sizes deg d (indices_up_to A high) (indices_up_to A d) (low_indices A d high (omega (arith, h))))
    ∙ only_low 1 d (suc d) entries (list_sums entries d) next)
  where
    entries : List ℕ
    entries = map deg (indices_up_to A high)

    next : suc d ≡ 1 + d
    next = omega arith

pub list_indices_sized : (A : Type') (d : ℕ) → 0 < d → map deg (map many (lists (indices_up_to A) d d)) ≡ list_sums (map deg (indices_up_to A (d - 1))) d
list_indices_sized A d h = map-map deg many (lists (indices_up_to A) d d) ∙ lists_sized A (d - 1) d (omega (arith, h))

-- a list index of a lower degree is one of a higher
pub no_fewer_lists : (A : Type') (g d : ℕ) → g ≤ d → 0 < d → length (list_sums (map deg (indices_up_to A (d - 1))) g) ≤ length (map many (lists (indices_up_to A) d d))
no_fewer_lists A g d low h =
    let a = ap length (lists_sized A (d - 1) g (omega (arith, low, h))) in
    let b = length-map (lists (indices_up_to A) g g) size in
    let c = ap length (low_lists A g d low) in
    let e = fewer size g (lists (indices_up_to A) d d) in
    let f = length-map (lists (indices_up_to A) d d) many in
    omega (arith, a, b, c, e, f)

pub options_sized : (A : Type') (d : ℕ) → 0 < d → map deg (options (indices_up_to A) d) ≡ 0 ∷ sums_behind 1 d (map deg (indices_up_to A (d - 1)))
options_sized A zero h = absurd (omega (arith, h))
options_sized A (suc d) h =
    (λ n. 0 ∷ map deg (map OneEntry (indices_up_to A (less n))))
    ∙ ap (λ l. 0 ∷ l) (with_entry (indices_up_to A (suc d - 1)) ∙ ap (map (λ n. 1 + n)) (low_sizes deg (suc d - 1) (indices_up_to A (suc d - 1)) (indices_up_to A (suc d - 1)) (low_indices A (suc d - 1) (suc d - 1) (omega arith)))
    ∙ sym (behind_low 1 (suc d) (map deg (indices_up_to A (suc d - 1))) (omega arith)))
  where
    less : d ≡ suc d - 1
    less = omega arith

    with_entry : (is : List Plain) → map deg (map OneEntry is) ≡ map (λ n. 1 + n) (map deg is)
    with_entry [] = refl
    with_entry (i ∷ is) = ap (λ l. (1 + deg i) ∷ l) (with_entry is)

-- What may follow is no longer than all: the zero index comes first somewhere

module _ {Y Z : Type 0} (rests : ℕ → List Y) (both : Plain → Y → Z) (d : ℕ) where
  as_long_with : (i : Plain) (firsts : List Plain) → deg i ≡ 0 → Among i firsts → length (rests d) ≤ length (joined rests both d firsts)
  as_long_with i [] none m = absurd m
  as_long_with i (j ∷ firsts) none m =
      let a = length-append (map (λ r. both j r) (rests (d - deg j))) (joined rests both d firsts) in
      let b = length-map (rests (d - deg j)) (λ r. both j r) in
      ⊎_elim
      (λ e. let c = ap (λ g. length (rests g)) (whole_degree (ap deg e ∙ none)) in omega (arith, a, b, c))
      (λ g. let c = as_long_with i firsts none g in omega (arith, a, c)) m
    where
      whole_degree : deg j ≡ 0 → d - deg j ≡ d
      whole_degree e = omega (arith, e)

  pub as_long_as_rests : (A : Type') → length (rests d) ≤ length (joined rests both d (indices_up_to A d))
  as_long_as_rests A = let z = zero_degree A in as_long_with (zero_of A) (indices_up_to A d) z (whole A d (zero_of A) (zero_is_index A) (omega (arith, z)))

-- One more of the others, and one more of the firsts

pub one_within : (first d : ℕ) (others : List ℕ) (k : ℕ) (found old : List ℕ) → k < length others → first + get_or others k 0 ≤ d →
    found ++ sums_behind first d (drop k others) ≡ old ++ sums_behind first d others → length found + 1 ≤ length old + length (sums_behind first d others)
one_within first d others k found old h low done =
    let a = length-append found (sums_behind first d (drop k others)) in
    let b = length-append old (sums_behind first d others) in
    let c = ap length done in
    let f = ap (λ l. length (sums_behind first d l)) (drop-cons others k 0 h) in
    let g : length (sums_behind first d (get_or others k 0 ∷ drop (suc k) others)) ≡ suc (length (sums_behind first d (drop (suc k) others))) =
    λ i. length (cond (le-leb (first + get_or others k 0) d low i) ((first + get_or others k 0) ∷ sums_behind first d (drop (suc k) others)) (sums_behind first d (drop (suc k) others))) in
    omega (arith, a, b, c, f, g)

pub all_within : (more d : ℕ) (firsts others : List ℕ) (k first : ℕ) (found old : List ℕ) → k < length firsts → first ≡ get_or firsts k 0 →
    found ++ all_sums more d (drop k firsts) others ≡ old ++ all_sums more d firsts others → length found + length (sums_behind (more + first) d others) ≤ length old + length (all_sums more d firsts others)
all_within more d firsts others k first found old h e done =
    let a = length-append found (all_sums more d (drop k firsts) others) in
    let b = length-append old (all_sums more d firsts others) in
    let c = ap length done in
    let f = ap (λ l. length (all_sums more d l others)) (drop-cons firsts k 0 h ∙ ap (λ y. y ∷ drop (suc k) firsts) (sym e)) in
    let g = length-append (sums_behind (more + first) d others) (all_sums more d (drop (suc k) firsts) others) in
    omega (arith, a, b, c, f, g)

pub one_longer : (entries : List ℕ) (g : ℕ) → list_sums entries (g + 1) ≡ 0 ∷ all_sums 1 (g + 1) entries (list_sums entries g)
one_longer entries g = (λ n. list_sums entries (next n)) ∙ (λ n. 0 ∷ all_sums 1 (sym next n) entries (list_sums entries g))
  where
    next : g + 1 ≡ suc g
    next = omega arith

pub entries_fewer : (A : Type') (d : ℕ) → 0 < d → length (indices_up_to A (d - 1)) ≤ length (map many (lists (indices_up_to A) d d))
entries_fewer A d h =
    let a = ap length (lists_step (indices_up_to A) d h) in
    let b = longer (λ k. lists (indices_up_to A) k k) ◌∷◌ (d - 1) (λ k. some_list (indices_up_to A) k k) (indices_up_to A (d - 1)) in
    let c = length-map (lists (indices_up_to A) d d) many in
    omega (arith, a, b, c)
