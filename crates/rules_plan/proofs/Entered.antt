-- Entries by positions are those tuple by tuple.
use Rattle.std.proofs.Common.{◌≡◌, ◌≤◌, ◌<◌, ℕ, zero, suc, ◌+◌, ◌-◌, Bool, true, false, not, cond, if◌then◌else◌, nat_eq, nat_lt, ◌&&◌, List, [], ◌∷◌, ◌++◌, map, length, position, slice_get, Some, None, refl, sym, ap, ◌∙◌, arith, append_assoc}
use Rattle.std.proofs.lemmas.List.Elements.{filter-append}
use Rattle.std.specs.List.{position_or_len, range_with_len}
use Rattle.std.proofs.lemmas.Bool.Decides.{nat_tests}
use Rattle.raml_syntax.specs.Tree.{Type'}
use Rattle.base_poly.specs.Plain.{Plain, alike}
use Rattle.base_poly.specs.Indices.{Ascends, tuple_order, index_list}
use Rattle.base_poly.specs.Total.{alike_is}
use Rattle.base_poly.proofs.Front.{lower_stand_first}
use Rattle.index_shift.specs.declared.entry.Entry.{Entry}
use Rattle.index_shift.specs.Maps.{Carry, entry_to, placed, entries_from}
use Rattle.index_shift.specs.Contexts.{marked_items, other_items, projects}
use Rattle.index_shift.proofs.Spots.{position_there}
use Rattle.annot_types.specs.Carried.{to}
use Rattle.annot_types.specs.Rows.{size as size_of}
use Rattle.rules_spec.specs.Planned.{entries_of}
use Rattle.rules_plan.specs.Entries.{spot, entry, placed_at, picked_at, restricted}

one_placed : (b : Bool) (k x : ℕ) (rest : List Entry) → (entry_to k 1 (cond b (Some x) None) ++ []) ++ rest ≡ cond b (entry k x ∷ rest) rest
one_placed true k x rest = refl
one_placed false k x rest = refl

-- each tuple goes to one
pub to_placed : (make : List Plain → List Plain) (k : ℕ) (ts us : List (List Plain)) → entries_from k (to make) ts us ≡ placed_at (length us) k (map (λ t. spot us (make t)) ts)
to_placed make k [] us = refl
to_placed make k (t ∷ ts) us =
    let p = spot us (make t) in
    let b = nat_lt p (length us) in
    one_placed b k p (entries_from (suc k) (to make) ts us) ∙ ap (λ rest. cond b (entry k p ∷ rest) rest) (to_placed make (suc k) ts us)

-- each to itself
pub identity_step : (old new whole : List Entry) (k n : ℕ) → k < n → new ≡ old ++ entry k k ∷ [] → old ++ map (λ q. entry q q) (range_with_len k (n - k)) ≡ whole →
    new ++ map (λ q. entry q q) (range_with_len (k + 1) (n - (k + 1))) ≡ whole
identity_step old new whole k n h made done =
    ap (λ l. l ++ map (λ q. entry q q) (range_with_len (k + 1) (n - (k + 1)))) made
    ∙ append_assoc old (entry k k ∷ []) (map (λ q. entry q q) (range_with_len (k + 1) (n - (k + 1))))
    ∙ ap (λ m. old ++ map (λ q. entry q q) (range_with_len k m)) more ∙ done
  where
    more : suc (n - (k + 1)) ≡ n - k
    more = omega (arith, h)

pub itself_placed : (k n : ℕ) (ts us : List (List Plain)) → ((m : ℕ) (t : List Plain) → slice_get ts m ≡ Some t → slice_get us (k + m) ≡ Some t) → Ascends tuple_order us → length ts ≡ n →
    map (λ q. entry q q) (range_with_len k n) ≡ entries_from k (to (λ t. t)) ts us
itself_placed k zero [] us at up e = refl
itself_placed k (suc n) [] us at up e = absurd (omega (arith, e))
itself_placed k zero (t ∷ ts) us at up e = absurd (omega (arith, e))
itself_placed k (suc n) (t ∷ ts) us at up e =
    (λ i. entry k k ∷ map (λ q. entry q q) (range_with_len (next i) n))
    ∙ ap (λ l. entry k k ∷ l) (itself_placed (suc k) n ts us (λ m x h. ap (slice_get us) (later m) ∙ at (suc m) x h) up (omega (arith, e)))
    ∙ ap (λ o. (entry_to k 1 o ++ []) ++ entries_from (suc k) (to (λ t. t)) ts us) (sym (position_there us k t up (ap (slice_get us) none ∙ at 0 t refl)))
  where
    next : k + 1 ≡ suc k
    next = omega arith

    none : k ≡ k + 0
    none = omega arith

    later : (m : ℕ) → suc k + m ≡ k + suc m
    later m = omega arith

-- Where a tuple stands.

the_same : (x y : ℕ) → Some x ≡ Some y → x ≡ y
the_same x y h = cc

apart : {n : ℕ} → None ≡ Some n → ⊥
apart e = cc

shown : (b : Bool) (s q : ℕ) → cond b (Some s) None ≡ Some q → s ≡ q
shown true s q h = the_same s q h
shown false s q h = absurd (apart h)

passes : (p : List Plain → Bool) (xs : List (List Plain)) (q : ℕ) (x : List Plain) → position_or_len p xs ≡ q → slice_get xs q ≡ Some x → p x ≡ true
passes p [] q x e there = absurd (cc)
passes p (y ∷ ys) q x e there = by (p y) refl (passes p ys)
  where
    first : (y x : List Plain) → Some y ≡ Some x → y ≡ x
    first y x h = cc

    by : (b : Bool) → p y ≡ b → ((q : ℕ) (x : List Plain) → position_or_len p ys ≡ q → slice_get ys q ≡ Some x → p x ≡ true) → p x ≡ true
    by true f more =
        let zeroth : 0 ≡ q = (λ i. cond (not (sym f i)) (1 + position_or_len p ys) 0) ∙ e in
        let same : Some y ≡ Some x = ap (slice_get (y ∷ ys)) zeroth ∙ there in
        ap p (sym (first y x same)) ∙ f
    by false f more =
        let next : 1 + position_or_len p ys ≡ q = (λ i. cond (not (sym f i)) (1 + position_or_len p ys) 0) ∙ e in
        let later : suc (position_or_len p ys) ≡ q = let n = next in omega (arith, n) in
        more (position_or_len p ys) x refl (ap (slice_get (y ∷ ys)) later ∙ there)

pub is_spot : (js : List (List Plain)) (q : ℕ) (j o : List Plain) → Ascends tuple_order js → slice_get js q ≡ Some j → alike o j ≡ nat_eq (spot js o) q
is_spot js q j o up there = by (alike o j) refl
  where
    equal : (m n : ℕ) → m ≡ n → true ≡ nat_eq m n
    equal m n h = grind (arith, nat_tests, h)

    is_equal : (m n : ℕ) → nat_eq m n ≡ true → m ≡ n
    is_equal m n h = grind (arith, nat_tests, h)

    clash : true ≡ false → ⊥
    clash h = cc

    test : (b : Bool) → nat_eq (spot js o) q ≡ b → alike o j ≡ false → false ≡ nat_eq (spot js o) q
    test false e f = sym e
    test true e f = absurd (clash (sym (passes (alike o) js q j (is_equal (spot js o) q e) there) ∙ f))

    by : (b : Bool) → alike o j ≡ b → alike o j ≡ nat_eq (spot js o) q
    by true e =
        let same = alike_is o j e in
        let here = ap (λ t. position (alike t) js) same ∙ position_there js q j up there in
        e ∙ equal (spot js o) q (shown (nat_lt (spot js o) (length js)) (spot js o) q here)
    by false e = e ∙ test (nat_eq (spot js o) q) refl e

-- those of a tuple of the other variables
half_placed : (a b : Bool) (us : List (List Plain)) (k x : ℕ) (m : List Plain) (rest : List Entry) → b ≡ nat_lt (spot us m) (length us) → x ≡ spot us m →
    placed us k (if a then (m, 1) ∷ [] else []) ++ rest ≡ cond (a && b) (entry k x ∷ rest) rest
half_placed true b us k x m rest e f = one_placed (nat_lt (spot us m) (length us)) k (spot us m) rest ∙ (λ i. cond (sym e i) (entry k (sym f i) ∷ rest) rest)
half_placed false b us k x m rest e f = refl

-- where the other indices of a tuple stand, and where the marked ones
abbrev pub halves : List (List Plain) → List (List Plain) → List Bool → List Plain → ℕ × ℕ
halves js us marks t = (spot js (other_items marks t), spot us (marked_items marks t))

pub projects_picked : (marks : List Bool) (js us : List (List Plain)) (q : ℕ) (j : List Plain) → Ascends tuple_order js → slice_get js q ≡ Some j → (k : ℕ) (ts : List (List Plain)) →
    entries_from k (projects marks j) ts us ≡ picked_at q (length us) k (map (halves js us marks) ts)
projects_picked marks js us q j up there k [] = refl
projects_picked marks js us q j up there k (t ∷ ts) =
    let m = marked_items marks t in
    let o = other_items marks t in
    half_placed (alike o j) (nat_lt (spot us m) (length us)) us k (spot us m) m (entries_from (suc k) (projects marks j) ts us) refl refl
    ∙ (λ i. cond (is_spot js q j o up there i && nat_lt (spot us m) (length us)) (entry k (spot us m) ∷ projects_picked marks js us q j up there (suc k) ts i) (projects_picked marks js us q j up there (suc k) ts i))

-- Restricted to lower budgets.

low_spot : (p : List Plain → Bool) (us vs : List (List Plain)) → position_or_len p us < length us → position_or_len p (us ++ vs) ≡ position_or_len p us
low_spot p [] vs h = absurd (omega (arith, h))
low_spot p (u ∷ us) vs h = by (p u) h (low_spot p us vs)
  where
    by : (b : Bool) → cond (not b) (1 + position_or_len p us) 0 < length (u ∷ us) → (position_or_len p us < length us → position_or_len p (us ++ vs) ≡ position_or_len p us) →
        cond (not b) (1 + position_or_len p (us ++ vs)) 0 ≡ cond (not b) (1 + position_or_len p us) 0
    by true l more = refl
    by false l more = ap (λ n. 1 + n) (more (omega (arith, l)))

high_spot : (p : List Plain → Bool) (us vs : List (List Plain)) → length us ≤ position_or_len p us → length us ≤ position_or_len p (us ++ vs)
high_spot p [] vs h = omega arith
high_spot p (u ∷ us) vs h = by (p u) h (high_spot p us vs)
  where
    by : (b : Bool) → length (u ∷ us) ≤ cond (not b) (1 + position_or_len p us) 0 → (length us ≤ position_or_len p us → length us ≤ position_or_len p (us ++ vs)) →
        length (u ∷ us) ≤ cond (not b) (1 + position_or_len p (us ++ vs)) 0
    by true l more = absurd (omega (arith, l))
    by false l more = let h = more (omega (arith, l)) in omega (arith, h)

below : (m n : ℕ) → m < n → nat_lt m n ≡ true
below m n h = grind (arith, nat_tests, h)

above : (m n : ℕ) → n ≤ m → nat_lt m n ≡ false
above m n h = grind (arith, nat_tests, h)

is_below : (m n : ℕ) → nat_lt m n ≡ true → m < n
is_below m n h = grind (arith, nat_tests, h)

is_above : (m n : ℕ) → nat_lt m n ≡ false → n ≤ m
is_above m n h = grind (arith, nat_tests, h)

longer : {X : Type 0} (xs ys : List X) → length xs ≤ length (xs ++ ys)
longer [] ys = omega arith
longer (x ∷ xs) ys = let h = longer xs ys in omega (arith, h)

-- one entry, kept or not
kept : (n m k x s : ℕ) (b : Bool) → restricted n m (entry_to k x (cond b (Some s) None)) ≡ cond b (cond (nat_lt k n && nat_lt s m) (record { from = k; to = s; times = x } ∷ []) []) []
kept n m k x s true = refl
kept n m k x s false = refl

no_entry : (b : Bool) → cond {A = List Entry} b [] [] ≡ []
no_entry true = refl
no_entry false = refl

module _ (us vs : List (List Plain)) (n k : ℕ) (low : k < n) where
  one_restricted : (p : List Plain → Bool) (x : ℕ) → restricted n (length us) (entry_to k x (position p (us ++ vs))) ≡ entry_to k x (position p us)
  one_restricted p x = by (nat_lt (position_or_len p us) (length us)) refl
    where
      s : ℕ
      s = position_or_len p (us ++ vs)

      big : Bool
      big = nat_lt s (length (us ++ vs))

      by : (b : Bool) → nat_lt (position_or_len p us) (length us) ≡ b → restricted n (length us) (entry_to k x (position p (us ++ vs))) ≡ entry_to k x (position p us)
      by true e =
          let in_us = is_below (position_or_len p us) (length us) e in
          let same = low_spot p us vs in_us in
          let long = longer us vs in
          let inside : s < length (us ++ vs) = omega (arith, in_us, same, long) in
          let near : s < length us = omega (arith, in_us, same) in
          kept n (length us) k x s big
          ∙ (λ i. cond (below s (length (us ++ vs)) inside i) (cond (below k n low i && below s (length us) near i) (record { from = k; to = same i; times = x } ∷ []) []) [])
          ∙ (λ i. entry_to k x (cond (sym e i) (Some (position_or_len p us)) None))
      by false e =
          let out = high_spot p us vs (is_above (position_or_len p us) (length us) e) in
          kept n (length us) k x s big
          ∙ (λ i. cond big (cond (below k n low i && above s (length us) out i) (record { from = k; to = s; times = x } ∷ []) []) [])
          ∙ no_entry big
          ∙ (λ i. entry_to k x (cond (sym e i) (Some (position_or_len p us)) None))

  all_restricted : (es : List (List Plain × ℕ)) → restricted n (length us) (placed (us ++ vs) k es) ≡ placed us k es
  all_restricted [] = refl
  all_restricted (e ∷ es) =
      filter-append _ (entry_to k e.1 (position (alike e.0) (us ++ vs))) (placed (us ++ vs) k es)
      ∙ (λ i. one_restricted (alike e.0) e.1 i ++ all_restricted es i)

-- positions past the limit go nowhere
module _ (us : List (List Plain)) (n m : ℕ) where
  gone : (k x s : ℕ) (high : n ≤ k) (b : Bool) → restricted n m (entry_to k x (cond b (Some s) None)) ≡ []
  gone k x s high true =
      let one : Entry = record { from = k; to = s; times = x } in
      (λ i. cond {A = List Entry} (above k n high i && nat_lt s m) (one ∷ []) [])
  gone k x s high false = refl

  dropped : (k : ℕ) (high : n ≤ k) (es : List (List Plain × ℕ)) → restricted n m (placed us k es) ≡ []
  dropped k high [] = refl
  dropped k high (e ∷ es) =
      let s = position_or_len (alike e.0) us in
      filter-append _ (entry_to k e.1 (position (alike e.0) us)) (placed us k es) ∙ (λ i. gone k e.1 s high (nat_lt s (length us)) i ++ dropped k high es i)

  all_dropped : (c : Carry) (k : ℕ) (high : n ≤ k) (ts : List (List Plain)) → restricted n m (entries_from k c ts us) ≡ []
  all_dropped c k high [] = refl
  all_dropped c k high (t ∷ ts) =
      filter-append _ (placed us k (c t)) (entries_from (suc k) c ts us) ∙ (λ i. dropped k high (c t) i ++ all_dropped c (suc k) (omega (arith, high)) ts i)

front_restricted : (c : Carry) (ts ts' us vs : List (List Plain)) (n k : ℕ) → n ≡ k + length ts → restricted n (length us) (entries_from k c (ts ++ ts') (us ++ vs)) ≡ entries_from k c ts us
front_restricted c [] ts' us vs n k h = let e = h in all_dropped (us ++ vs) n (length us) c k (omega (arith, e)) ts'
front_restricted c (t ∷ ts) ts' us vs n k h =
    let e = h in
    filter-append _ (placed (us ++ vs) k (c t)) (entries_from (suc k) c (ts ++ ts') (us ++ vs))
    ∙ (λ i. all_restricted us vs n k (omega (arith, e)) (c t) i ++ front_restricted c ts ts' us vs n (suc k) (omega (arith, e)) i)

-- From a context and to another at lower budgets go the entries between lower positions.
pub lower_entries : (c : Carry) (As Bs : List Type') (b B d D : ℕ) → b ≤ B → d ≤ D → restricted (size_of As b) (size_of Bs d) (entries_of c As B Bs D) ≡ entries_of c As b Bs d
lower_entries c As Bs b B d D h g =
    let m = lower_stand_first As b B h in
    let o = lower_stand_first Bs d D g in
    (λ i. restricted (size_of As b) (size_of Bs d) (entries_from 0 c (m.1 i) (o.1 i)))
    ∙ front_restricted c (index_list As b) m.0 (index_list Bs d) o.0 (size_of As b) 0 (omega arith)
