-- What is read of terms is the bound that they declare.
use Rattle.std.proofs.Common.{◌≡◌, ◌≤◌, ◌<◌, ◌+◌, ◌^◌, ℕ, zero, suc, Bool, true, false, cond, List, [], ◌∷◌, map, length, ◌⊎◌, inl, inr, Option, Some, None, refl, sym, ap, subst, ◌∙◌, arith}
use Rattle.std.proofs.lemmas.Bool.{and_parts, leb-true, leb-false, le-leb}
use Rattle.std.proofs.lemmas.Bool.Decides.{nat_tests}
use Rattle.std.specs.Prelude.{nat_le, ◌&&◌, ◌||◌, slice_get, Contains}
use Rattle.std.specs.List.{All, list_any}
use Rattle.std.specs.Str.{bytes_eq}
use Rattle.std.specs.Cmp.Lexicographic.{bytes_decides}
use Rattle.raml_syntax.specs.Tree.{Text, Type'}
use Rattle.raml_syntax.specs.Types.{Differ}
use Rattle.base_poly.specs.Plain.{Plain, degrees}
use Rattle.base_poly.proofs.Exact.{each_listed}
use Rattle.base_poly.specs.Indices.{index_list}
use Rattle.base_poly.proofs.Among.{Among, among_contains, contains_among, among_mapped, mapped_among}
use Rattle.bound_file.specs.Lines.{Coefficient, AscendFrom, AreInRange, AreBelow}
use Rattle.bound_file.specs.Spelling.{Term, tuple_text}
use Rattle.bound_file.specs.Declares.{InRange, AllInRange, IsOfSome, HavePlaces, IsBound, HaveNoPlaces}
use Rattle.bound_file.proofs.Counting.{counted_as}
use Rattle.bound_file.specs.Reading.{Counted, term_of, is_placed, all_placed, with_coefficient, gathered, bound_over, bound_read}

no : {A : Type 0} → false ≡ true → A
no e = absurd (cc)

-- Terms by their tuples

abbrev tuples : List Term → List Text
tuples ts = map (λ (t : Term). t.tuple) ts

-- no two of them have one tuple
abbrev Apart : List Counted → Type 0
Apart [] = Unit {0}
Apart (c ∷ cs) = ((e : Counted) → Among e cs → c.tuple ≡ e.tuple → ⊥) × Apart cs

apart : (ts : List Term) → Differ (tuples ts) → Apart (map counted_as ts)
apart [] h = tt
apart (t ∷ ts) h = ((λ e m same. h.0 (first e m same)), apart ts h.1)
  where
    first : (e : Counted) → Among e (map counted_as ts) → t.tuple ≡ e.tuple → Contains (tuples ts) t.tuple
    first e m same =
        let r = among_mapped counted_as e ts m in
        let here : r.0.tuple ≡ t.tuple = ap (λ (c : Counted). c.tuple) r.2 ∙ sym same in
        subst (Contains (tuples ts)) here (among_contains r.0.tuple (tuples ts) (mapped_among (λ (u : Term). u.tuple) r.0 ts r.1))

record IsFound (u : List Plain) (cs : List Counted) (c : Counted) : Type 0 where
  among : Among c cs
  tuple : c.tuple ≡ tuple_text u

found_is : (u : List Plain) (cs : List Counted) (c : Counted) → term_of u cs ≡ Some c → IsFound u cs c
found_is u [] c e = absurd (cc)
found_is u (d ∷ cs) c e = at (bytes_eq d.tuple (tuple_text u)) (bytes_decides d.tuple (tuple_text u)).0 (found_is u cs c) e
  where
    at : (b : Bool) → (b ≡ true → d.tuple ≡ tuple_text u) → (term_of u cs ≡ Some c → IsFound u cs c) → cond b (Some d) (term_of u cs) ≡ Some c → IsFound u (d ∷ cs) c
    at true is more e = let q : d ≡ c = cc in record { among = inl q; tuple = sym (ap (λ (c : Counted). c.tuple) q) ∙ is refl }
    at false is more e = let h = more e in record { among = inr h.among; tuple = h.tuple }

-- the term of a tuple is found
found_there : (u : List Plain) (cs : List Counted) (c : Counted) → Apart cs → Among c cs → c.tuple ≡ tuple_text u → term_of u cs ≡ Some c
found_there u [] c h m is = absurd m
found_there u (d ∷ cs) c h (inl e) is = ap (λ b. cond b (Some d) (term_of u cs)) ((bytes_decides d.tuple (tuple_text u)).1 (ap (λ (c : Counted). c.tuple) e ∙ is)) ∙ ap Some e
found_there u (d ∷ cs) c h (inr m) is = at (bytes_eq d.tuple (tuple_text u)) (bytes_decides d.tuple (tuple_text u)).0 (found_there u cs c h.1 m is)
  where
    at : (b : Bool) → (b ≡ true → d.tuple ≡ tuple_text u) → term_of u cs ≡ Some c → cond b (Some d) (term_of u cs) ≡ Some c
    at true same e = absurd (h.0 c m (same refl ∙ sym is))
    at false same e = e

-- Coefficients

abbrev coefficient : ℕ → Counted → Coefficient
coefficient k c = record { position = k; numerator = c.numerator; denominator = c.denominator }

-- a coefficient is that of a term, at a place behind the first position
record IsGathered (k : ℕ) (us : List (List Plain)) (cs : List Counted) (x : Coefficient) : Type 0 where
  place : ℕ
  tuple : List Plain
  term : Counted
  there : slice_get us place ≡ Some tuple
  position : x.position ≡ k + place
  among : Among term cs
  is : term.tuple ≡ tuple_text tuple
  numerator : x.numerator ≡ term.numerator
  denominator : x.denominator ≡ term.denominator

gathered_is : (k : ℕ) (us : List (List Plain)) (cs : List Counted) (x : Coefficient) → Among x (gathered k us cs) → IsGathered k us cs x
gathered_is k [] cs x m = absurd m
gathered_is k (u ∷ us) cs x m = at (term_of u cs) (found_is u cs) (λ m. later (gathered_is (suc k) us cs x m)) m
  where
    later : IsGathered (suc k) us cs x → IsGathered k (u ∷ us) cs x
    later h = record {
      place = suc h.place;
      tuple = h.tuple;
      term = h.term;
      there = h.there;
      position = (let e = h.position in omega (arith, e));
      among = h.among;
      is = h.is;
      numerator = h.numerator;
      denominator = h.denominator;
    }

    at : (o : Option Counted) → ((c : Counted) → o ≡ Some c → IsFound u cs c) → (Among x (gathered (suc k) us cs) → IsGathered k (u ∷ us) cs x) → Among x (with_coefficient k o (gathered (suc k) us cs)) → IsGathered k (u ∷ us) cs x
    at None is more m = more m
    at (Some c) is more (inr m) = more m
    at (Some c) is more (inl e) =
        let h = is c refl in
        record {
          place = 0;
          tuple = u;
          term = c;
          there = refl;
          position = (let p : k ≡ x.position = ap (λ (x : Coefficient). x.position) e in omega (arith, p));
          among = h.among;
          is = h.tuple;
          numerator = ap (λ (x : Coefficient). x.numerator) (sym e);
          denominator = ap (λ (x : Coefficient). x.denominator) (sym e);
        }

gathered_there : (k : ℕ) (us : List (List Plain)) (cs : List Counted) → Apart cs → (n : ℕ) (u : List Plain) (c : Counted) → slice_get us n ≡ Some u → Among c cs → c.tuple ≡ tuple_text u → Among (coefficient (k + n) c) (gathered k us cs)
gathered_there k [] cs h n u c e m is = absurd (cc)
gathered_there k (v ∷ us) cs h zero u c e m is =
    let same : v ≡ u = cc in
    let found : term_of v cs ≡ Some c = found_there v cs c h m (is ∙ ap tuple_text (sym same)) in
    let here : k ≡ k + 0 = omega arith in
    subst (λ o. Among (coefficient (k + 0) c) (with_coefficient k o (gathered (suc k) us cs))) (sym found) (inl (ap (λ j. coefficient j c) here))
gathered_there k (v ∷ us) cs h (suc n) u c e m is =
    let moved : suc k + n ≡ k + suc n = omega arith in
    at (term_of v cs) (subst (λ j. Among (coefficient j c) (gathered (suc k) us cs)) moved (gathered_there (suc k) us cs h n u c e m is))
  where
    at : (o : Option Counted) → Among (coefficient (k + suc n) c) (gathered (suc k) us cs) → Among (coefficient (k + suc n) c) (with_coefficient k o (gathered (suc k) us cs))
    at None m = m
    at (Some d) m = inr m

ascend_weaker : (k : ℕ) (xs : List Coefficient) → AscendFrom (suc k) xs → AscendFrom k xs
ascend_weaker k [] h = tt
ascend_weaker k (x ∷ xs) h = ((let low = h.0 in omega (arith, low)), h.1)

gathered_ascend : (k : ℕ) (us : List (List Plain)) (cs : List Counted) → AscendFrom k (gathered k us cs)
gathered_ascend k [] cs = tt
gathered_ascend k (u ∷ us) cs = at (term_of u cs) (gathered_ascend (suc k) us cs)
  where
    at : (o : Option Counted) → AscendFrom (suc k) (gathered (suc k) us cs) → AscendFrom k (with_coefficient k o (gathered (suc k) us cs))
    at None h = ascend_weaker k (gathered (suc k) us cs) h
    at (Some c) h = (omega arith, h)

-- lists that ascend and have the same members are one
from_on : (k : ℕ) (xs : List Coefficient) (x : Coefficient) → AscendFrom k xs → Among x xs → k ≤ x.position
from_on k [] x h m = absurd m
from_on k (y ∷ xs) x h (inl e) = let low = h.0 in let p : y.position ≡ x.position = ap (λ (x : Coefficient). x.position) e in omega (arith, low, p)
from_on k (y ∷ xs) x h (inr m) = let low = h.0 in let more = from_on (suc y.position) xs x h.1 m in omega (arith, low, more)

one_list : (j k : ℕ) (xs ys : List Coefficient) → AscendFrom j xs → AscendFrom k ys → ((x : Coefficient) → Among x xs → Among x ys) → ((x : Coefficient) → Among x ys → Among x xs) → xs ≡ ys
one_list j k [] [] h g f b = refl
one_list j k [] (y ∷ ys) h g f b = absurd (b y (inl refl))
one_list j k (x ∷ xs) [] h g f b = absurd (f x (inl refl))
one_list j k (x ∷ xs) (y ∷ ys) h g f b =
    let same = first (f x (inl refl)) (b y (inl refl)) in
    (λ i. sym same i ∷ one_list (suc x.position) (suc y.position) xs ys h.1 g.1 (λ z m. rest xs ys x y h.1 (sym same) m (f z (inr m))) (λ z m. rest ys xs y x g.1 same m (b z (inr m))) i)
  where
    first : (y ≡ x) ⊎ Among x ys → (x ≡ y) ⊎ Among y xs → y ≡ x
    first (inl e) n = e
    first (inr m) (inl e) = sym e
    first (inr m) (inr n) = absurd (let low = from_on (suc y.position) ys x g.1 m in let high = from_on (suc x.position) xs y h.1 n in omega (arith, low, high))

    rest : (us ws : List Coefficient) (u w : Coefficient) {z : Coefficient} → AscendFrom (suc u.position) us → u ≡ w → Among z us → (w ≡ z) ⊎ Among z ws → Among z ws
    rest us ws u w {z} up e m (inr n) = n
    rest us ws u w {z} up e m (inl d) =
        absurd (let low = from_on (suc u.position) us z up m in let p : u.position ≡ z.position = ap (λ (x : Coefficient). x.position) (e ∙ d) in omega (arith, low, p))

-- Places

any_is : (p : List Plain → Bool) (us : List (List Plain)) → list_any p us ≡ true → (n : ℕ) × (u : List Plain) × (slice_get us n ≡ Some u) × (p u ≡ true)
any_is p [] e = no e
any_is p (u ∷ us) e = at (p u) refl (any_is p us) e
  where
    at : (b : Bool) → p u ≡ b → (list_any p us ≡ true → (n : ℕ) × (v : List Plain) × (slice_get us n ≡ Some v) × (p v ≡ true)) → (b || list_any p us) ≡ true → (n : ℕ) × (v : List Plain) × (slice_get (u ∷ us) n ≡ Some v) × (p v ≡ true)
    at true q more e = (0, u, refl, q)
    at false q more e = let r = more e in (suc r.0, r.1, r.2, r.3)

any_told : (p : List Plain → Bool) (us : List (List Plain)) (n : ℕ) (u : List Plain) → slice_get us n ≡ Some u → p u ≡ true → list_any p us ≡ true
any_told p [] n u e q = absurd (cc)
any_told p (v ∷ us) zero u e q = let same : v ≡ u = cc in ap (λ b. b || list_any p us) (ap p same ∙ q)
any_told p (v ∷ us) (suc n) u e q = at (p v) (any_told p us n u e q)
  where
    at : (b : Bool) → list_any p us ≡ true → (b || list_any p us) ≡ true
    at true e = refl
    at false e = e

abbrev IsPlaced : List (List Plain) → Text → Type 0
IsPlaced us text = (n : ℕ) × (u : List Plain) × (slice_get us n ≡ Some u) × (text ≡ tuple_text u)

placed_is : (us : List (List Plain)) (text : Text) → is_placed us text ≡ true → IsPlaced us text
placed_is us text e = let r = any_is (λ u. bytes_eq text (tuple_text u)) us e in (r.0, r.1, r.2, (bytes_decides text (tuple_text r.1)).0 r.3)

placed_told : (us : List (List Plain)) (text : Text) → IsPlaced us text → is_placed us text ≡ true
placed_told us text r = any_told (λ u. bytes_eq text (tuple_text u)) us r.0 r.1 r.2 ((bytes_decides text (tuple_text r.1)).1 r.3)

all_is : (us : List (List Plain)) (cs : List Counted) → all_placed us cs ≡ true → (c : Counted) → Among c cs → IsPlaced us c.tuple
all_is us [] e c m = absurd m
all_is us (d ∷ cs) e c (inl q) = let p = and_parts (is_placed us d.tuple) (all_placed us cs) e in subst (λ (c : Counted). IsPlaced us c.tuple) q (placed_is us d.tuple p.0)
all_is us (d ∷ cs) e c (inr m) = let p = and_parts (is_placed us d.tuple) (all_placed us cs) e in all_is us cs p.1 c m

not_all : (us : List (List Plain)) (cs : List Counted) → all_placed us cs ≡ false → (c : Counted) × Among c cs × (IsPlaced us c.tuple → ⊥)
not_all us [] e = absurd (apart_truths e)
  where
    apart_truths : true ≡ false → ⊥
    apart_truths q = cc
not_all us (d ∷ cs) e = at (is_placed us d.tuple) (placed_told us d.tuple) (not_all us cs) e
  where
    at : (b : Bool) → (IsPlaced us d.tuple → b ≡ true) → (all_placed us cs ≡ false → (c : Counted) × Among c cs × (IsPlaced us c.tuple → ⊥)) → (b && all_placed us cs) ≡ false → (c : Counted) × Among c (d ∷ cs) × (IsPlaced us c.tuple → ⊥)
    at true told more e = let r = more e in (r.0, inr r.1, r.2)
    at false told more e = (d, inl refl, λ p. no (told p))

-- The bound

module _ (As : List Type') (d : ℕ) (ts : List Term) (differ : Differ (tuples ts)) where
  abbrev us : List (List Plain)
  us = index_list As d

  abbrev cs : List Counted
  cs = map counted_as ts

  abbrev bound : List Coefficient
  bound = gathered 0 us cs

  member_is : (x : Coefficient) → Contains bound x → IsOfSome As d ts x
  member_is x has =
      let g = gathered_is 0 us cs x (contains_among x bound has) in
      let r = among_mapped counted_as g.term ts g.among in
      let at : slice_get us x.position ≡ Some g.tuple = ap (slice_get us) (let p = g.position in omega (arith, p)) ∙ g.there in
      let tuple : r.0.tuple ≡ tuple_text g.tuple = ap (λ (c : Counted). c.tuple) r.2 ∙ g.is in (
        r.0,
        among_contains r.0 ts r.1,
        record {
          at = (g.tuple, at, tuple);
          numerator = g.numerator ∙ ap (λ (c : Counted). c.numerator) (sym r.2);
          denominator = g.denominator ∙ ap (λ (c : Counted). c.denominator) (sym r.2);
        },
      )

  member_there : (x : Coefficient) → IsOfSome As d ts x → Contains bound x
  member_there x h =
      let t = h.0 in
      let o = h.2 in
      let m = mapped_among counted_as t ts (contains_among t ts h.1) in
      let from : 0 + x.position ≡ x.position = omega arith in
      let there : Among (coefficient x.position (counted_as t)) bound =
      subst (λ n. Among (coefficient n (counted_as t)) bound) from (gathered_there 0 us cs (apart ts differ) x.position o.at.0 (counted_as t) o.at.1 m o.at.2) in
      let same : coefficient x.position (counted_as t) ≡ x = λ i. record { position = x.position; numerator = sym o.numerator i; denominator = sym o.denominator i } in
      among_contains x bound (subst (λ y. Among y bound) same there)

  -- what is read, where something is written
  pub over_is : (b : List Coefficient) → nat_le (length us) 2000 ≡ true → bound_over us cs ≡ Some b → IsBound As d ts b
  over_is b few e = at (all_placed us cs) (all_is us cs) e
    where
      at : (u : Bool) → (u ≡ true → (c : Counted) → Among c cs → IsPlaced us c.tuple) → cond u (Some bound) None ≡ Some b → IsBound As d ts b
      at true all e =
          let q : bound ≡ b = cc in
          subst (IsBound As d ts) q (record {
            places = inr (leb-true (length us) 2000 few, λ t has. let r = all refl (counted_as t) (mapped_among counted_as t ts (contains_among t ts has)) in (r.0, (r.1, r.2, r.3)));
            ascend = gathered_ascend 0 us cs;
            exactly = λ x. (member_is x, member_there x);
          })
      at false all e = absurd (cc)

  pub over_none : bound_over us cs ≡ None → HaveNoPlaces As d ts
  over_none e = at (all_placed us cs) (not_all us cs) e
    where
      at : (u : Bool) → (u ≡ false → (c : Counted) × Among c cs × (IsPlaced us c.tuple → ⊥)) → cond u (Some bound) None ≡ None → HaveNoPlaces As d ts
      at true none e = absurd (cc)
      at false none e =
          let r = none refl in
          let s = among_mapped counted_as r.0 ts r.1 in
          inr (s.0, among_contains s.0 ts s.1, λ k h. r.2 (k, h.0, h.1, sym (ap (λ (c : Counted). c.tuple) s.2) ∙ h.2))

no_member : {X : Type 0} (x : X) → Contains [] x → ⊥
no_member x has = contains_among x [] has

pub bound_is : (As : List Type') (d : ℕ) (ts : List Term) → Differ (tuples ts) → (b : List Coefficient) → bound_read As d (map counted_as ts) ≡ Some b → IsBound As d ts b
bound_is As d [] differ b e =
    let q : [] ≡ b = cc in
    subst (IsBound As d []) q (record {
      places = inl refl;
      ascend = tt;
      exactly = λ x. ((λ has. absurd (no_member x has)), (λ h. absurd (no_member h.0 h.1)));
    })
bound_is As d (t ∷ ts) differ b e = at (nat_le (length (index_list As d)) 2000) refl e
  where
    at : (u : Bool) → nat_le (length (index_list As d)) 2000 ≡ u → cond u (bound_over (index_list As d) (map counted_as (t ∷ ts))) None ≡ Some b → IsBound As d (t ∷ ts) b
    at true few e = over_is As d (t ∷ ts) differ b few e
    at false few e = absurd (cc)

pub bound_none : (As : List Type') (d : ℕ) (ts : List Term) → Differ (tuples ts) → bound_read As d (map counted_as ts) ≡ None → HaveNoPlaces As d ts
bound_none As d [] differ e = absurd (cc)
bound_none As d (t ∷ ts) differ e = at (nat_le (length (index_list As d)) 2000) refl e
  where
    at : (u : Bool) → nat_le (length (index_list As d)) 2000 ≡ u → cond u (bound_over (index_list As d) (map counted_as (t ∷ ts))) None ≡ None → HaveNoPlaces As d (t ∷ ts)
    at true few e = over_none As d (t ∷ ts) differ e
    at false few e = inl (omega arith, leb-false (length (index_list As d)) 2000 few)

-- terms have places or have none
never_both : (As : List Type') (d : ℕ) (ts : List Term) → HavePlaces As d ts → HaveNoPlaces As d ts → ⊥
never_both As d ts (inl e) (inl n) = let some = n.0 in let none = ap length e in omega (arith, some, none)
never_both As d ts (inl e) (inr n) = no_member n.0 (subst (λ us. Contains us n.0) e n.1)
never_both As d ts (inr p) (inl n) = let few = p.0 in let many = n.1 in omega (arith, few, many)
never_both As d ts (inr p) (inr n) = let r = p.1 n.0 n.1 in n.2 r.0 r.1

one_bound : (As : List Type') (d : ℕ) (ts : List Term) (a b : List Coefficient) → IsBound As d ts a → IsBound As d ts b → a ≡ b
one_bound As d ts a b h g =
    one_list 0 0 a b h.ascend g.ascend
    (λ x m. contains_among x b ((g.exactly x).1 ((h.exactly x).0 (among_contains x a m))))
    (λ x m. contains_among x a ((h.exactly x).1 ((g.exactly x).0 (among_contains x b m))))

pub bound_there : (As : List Type') (d : ℕ) (ts : List Term) → Differ (tuples ts) → (b : List Coefficient) → IsBound As d ts b → bound_read As d (map counted_as ts) ≡ Some b
bound_there As d ts differ b h = at (bound_read As d (map counted_as ts)) (bound_is As d ts differ) (bound_none As d ts differ)
  where
    at : (o : Option (List Coefficient)) → ((a : List Coefficient) → o ≡ Some a → IsBound As d ts a) → (o ≡ None → HaveNoPlaces As d ts) → o ≡ Some b
    at None is none = absurd (never_both As d ts h.places (none refl))
    at (Some a) is none = ap Some (one_bound As d ts a b (is a refl) h)

pub no_bound : (As : List Type') (d : ℕ) (ts : List Term) → Differ (tuples ts) → HaveNoPlaces As d ts → bound_read As d (map counted_as ts) ≡ None
no_bound As d ts differ h = at (bound_read As d (map counted_as ts)) (bound_is As d ts differ)
  where
    at : (o : Option (List Coefficient)) → ((a : List Coefficient) → o ≡ Some a → IsBound As d ts a) → o ≡ None
    at None is = refl
    at (Some a) is = absurd (never_both As d ts (is a refl).places h)

-- What is true of the coefficients of a bound

ranged : (ts : List Term) → AllInRange ts → (t : Term) → Among t ts → InRange t
ranged [] h t m = absurd m
ranged (u ∷ ts) h t (inl e) = subst InRange e h.0
ranged (u ∷ ts) h t (inr m) = ranged ts h.1 t m

numbers : (As : List Type') (d : ℕ) (ts : List Term) → AllInRange ts → (cs : List Coefficient) → ((c : Coefficient) → Among c cs → IsOfSome As d ts c) → AreInRange cs
numbers As d ts h [] is = tt
numbers As d ts h (c ∷ cs) is =
    let o = is c (inl refl) in
    let r = ranged ts h o.0 (contains_among o.0 ts o.1) in
    let n = o.2.numerator in
    let m = o.2.denominator in
    (subst (λ k. 0 < k) (sym n) r.some, subst (λ k. k < 2 ^ 127) (sym n) r.fits, subst (λ k. 0 < k) (sym m) r.over_some, subst (λ k. k < 2 ^ 127) (sym m) r.over_fits, numbers As d ts h cs (λ e g. is e (inr g)))

pub bound_numbers : (As : List Type') (d : ℕ) (ts : List Term) → AllInRange ts → (b : List Coefficient) → IsBound As d ts b → AreInRange b
bound_numbers As d ts h b g = numbers As d ts h b (λ c m. (g.exactly c).0 (among_contains c b m))

within : (us : List (List Plain)) (k : ℕ) (u : List Plain) → slice_get us k ≡ Some u → k < length us
within [] k u e = absurd (cc)
within (v ∷ us) zero u e = omega arith
within (v ∷ us) (suc k) u e = let low = within us k u e in omega (arith, low)

below : (As : List Type') (d : ℕ) (ts : List Term) (cs : List Coefficient) → ((c : Coefficient) → Among c cs → IsOfSome As d ts c) → AreBelow (length (index_list As d)) cs
below As d ts [] is = tt
below As d ts (c ∷ cs) is =
    let o = is c (inl refl) in
    (within (index_list As d) c.position o.2.at.0 o.2.at.1, below As d ts cs (λ e g. is e (inr g)))

pub bound_below : (As : List Type') (d : ℕ) (ts : List Term) (b : List Coefficient) → IsBound As d ts b → AreBelow (length (index_list As d)) b
bound_below As d ts b g = below As d ts b (λ c m. (g.exactly c).0 (among_contains c b m))

-- What is read of terms, by how many positions there are

pub low_tuples : (As : List Type') (d : ℕ) → d < 256 → (ts : List (List Plain)) → ts ≡ index_list As d → All (λ t. degrees t < 2 ^ 32) ts
low_tuples As d few ts e = subst (All (λ t. degrees t < 2 ^ 32)) (sym e) (each_listed (λ t. degrees t < 2 ^ 32) As d (λ t is less. omega (arith, few, less)))

pub bound_few : (As : List Type') (d : ℕ) (xs : List Counted) → (length xs ≡ 0 → ⊥) → length (index_list As d) ≤ 2000 → bound_read As d xs ≡ bound_over (index_list As d) xs
bound_few As d [] some few = absurd (some refl)
bound_few As d (x ∷ xs) some few = ap (λ b. cond b (bound_over (index_list As d) (x ∷ xs)) None) (le-leb (length (index_list As d)) 2000 few)

pub bound_many : (As : List Type') (d : ℕ) (xs : List Counted) → (length xs ≡ 0 → ⊥) → 2000 < length (index_list As d) → bound_read As d xs ≡ None
bound_many As d [] some many = absurd (some refl)
bound_many As d (x ∷ xs) some many = ap (λ b. cond b (bound_over (index_list As d) (x ∷ xs)) None) (above (length (index_list As d)) many)
  where
    above : (n : ℕ) → 2000 < n → nat_le n 2000 ≡ false
    above n h = grind (arith, nat_tests, h)
