-- What is done to entries over amounts is done to the annotations for which they stand.
use Rattle.std.proofs.Common.{◌≡◌, refl, ap, sym, ◌∙◌, arith, inl, inr, subst}
use Rattle.std.specs.Prelude.{ℕ, zero, suc, ◌+◌, ◌*◌, ◌<◌, ◌≤◌, ◌≢◌, ◌==◌, ◌⊎◌, if◌then◌else◌, List, [], ◌∷◌, ◌++◌, length, position, slice_set, Option, None, Some}
use Rattle.std.proofs.lemmas.List.{get_or-set_same, get_or-set_other, length-set}
use Rattle.std.proofs.lemmas.List.Quantifiers.{position-Some}
use Rattle.std.proofs.lemmas.Bool.Decides.{nat_tests}
use Rattle.raml_syntax.specs.Tree.{Type'}
use Rattle.base_poly.specs.Plain.{Plain, alike}
use Rattle.base_poly.specs.Indices.{index_list}
use Rattle.base_poly.proofs.Graded.{as_many}
use Rattle.base_poly.proofs.Longer.{some_tuple}
use Rattle.index_shift.specs.Potential.{Annotation}
use Rattle.index_shift.specs.Potential as i
use Rattle.index_shift.specs.Maps.{Carry, entry_to, placed, entries_from}
use Rattle.index_shift.specs.declared.entry.Entry.{Entry}
use Rattle.annot_types.specs.Carried.{less, more, to}
use Rattle.rules_spec.specs.Plan.{Step}
use Rattle.rules_spec.specs.Numbers.{Numbers}
use Rattle.rules_spec.specs.Kinds.{Amount, amounts, AllMeet}
use Rattle.rules_spec.specs.Walk.{at, added, brought, nothing, moved, against, numbered, at_zero}
use Rattle.rules_spec.specs.Stand.{Stands, Ranged}

-- a context has a position
pub some_position : (As : List Type') (d : ℕ) → 0 < length (index_list As d)
some_position As d = omega (arith, as_many As d, some_tuple As d)

-- entries go from positions of one list to positions of the other
module _ (us : List (List Plain)) where
  ranged_append : (n m : ℕ) (es fs : List Entry) → Ranged n m es → Ranged n m fs → Ranged n m (es ++ fs)
  ranged_append n m [] fs h g = g
  ranged_append n m (e ∷ es) fs h g = (h.0, h.1, ranged_append n m es fs h.2 g)

  ranged_one : (from high times : ℕ) (t : List Plain) (place : Option ℕ) → position (alike t) us ≡ place → from < high → Ranged high (length us) (entry_to from times place)
  ranged_one from high times t None h g = tt
  ranged_one from high times t (Some to) h g = (g, (position-Some (alike t) us to [] h).0, tt)

  ranged_placed : (from high : ℕ) (es : List (List Plain × ℕ)) → from < high → Ranged high (length us) (placed us from es)
  ranged_placed from high [] h = tt
  ranged_placed from high (e ∷ es) h =
      ranged_append high (length us) (entry_to from e.1 (position (alike e.0) us)) (placed us from es) (ranged_one from high e.1 e.0 (position (alike e.0) us) refl h) (ranged_placed from high es h)

  ranged_from : (c : Carry) (from high : ℕ) (ts : List (List Plain)) → from + length ts ≤ high → Ranged high (length us) (entries_from from c ts us)
  ranged_from c from high [] h = tt
  ranged_from c from high (t ∷ ts) h =
      ranged_append high (length us) (placed us from (c t)) (entries_from (suc from) c ts us)
      (ranged_placed from high (c t) (omega (arith, h)))
      (ranged_from c (suc from) high ts (omega (arith, h)))

pub ranged : (c : Carry) (ts us : List (List Plain)) → Ranged (length ts) (length us) (entries_from 0 c ts us)
ranged c ts us = ranged_from us c 0 (length ts) ts (omega arith)

abbrev get : List Amount → ℕ → Amount
get a k = at (amounts 1) a k

pub same_annotation : (n : ℕ) (a : List Amount) (q p : Annotation) → Stands n a q → ((k : ℕ) → k < n → q k ≡ p k) → Stands n a p
same_annotation n a q p s h = record { len = s.len; is = λ k b. omega (arith, s.is k b, h k b) }

abbrev pub at_place : ℕ → ℕ → ℕ → ℕ
at_place i k v = if i == k then v else 0

pub place_same : (i k v : ℕ) → i ≡ k → at_place i k v ≡ v
place_same i k v e = grind (arith, nat_tests, e)

pub place_other : (i k v : ℕ) → i ≢ k → at_place i k v ≡ 0
place_other i k v e = grind (arith, nat_tests, e)

pub same_or : (i k : ℕ) → (i ≡ k) ⊎ (i ≢ k)
same_or i k = grind arith

added_stands : (n : ℕ) (out : List Amount) (p : Annotation) (i t : ℕ) (x : Amount) (v : ℕ) → Stands n out p → i < n → x.plus ≡ v + x.minus →
    Stands n (added (amounts 1) out i t x) (λ k. p k + at_place i k (t * v))
added_stands n out p i t x v s h e =
    let y : Amount = record { plus = (get out i).plus + t * x.plus; minus = (get out i).minus + t * x.minus } in
    record { len = length-set out i y ∙ s.len; is = λ k b. by k b (same_or i k) } where
      by : (k : ℕ) → k < n → (i ≡ k) ⊎ (i ≢ k) → (get (added (amounts 1) out i t x) k).plus ≡ (p k + at_place i k (t * v)) + (get (added (amounts 1) out i t x) k).minus
      by k b (inl j) =
          let y : Amount = record { plus = (get out i).plus + t * x.plus; minus = (get out i).minus + t * x.minus } in
          let g : get (slice_set out i y) i ≡ y = get_or-set_same out i y (record { plus = 0; minus = 0 }) (omega (arith, h, s.len)) in
          let m : t * x.plus ≡ t * v + t * x.minus = ap (λ z. t * z) e ∙ omega arith in
          subst (λ k. (get (slice_set out i y) k).plus ≡ (p k + at_place i k (t * v)) + (get (slice_set out i y) k).minus) j
          (omega (arith, ap (λ (z : Amount). z.plus) g, ap (λ (z : Amount). z.minus) g, m, s.is i h, place_same i i (t * v) refl))
      by k b (inr j) =
          let y : Amount = record { plus = (get out i).plus + t * x.plus; minus = (get out i).minus + t * x.minus } in
          let g : get (slice_set out i y) k ≡ get out k = get_or-set_other out i k y (record { plus = 0; minus = 0 }) (λ e. j (sym e)) in
          omega (arith, ap (λ (z : Amount). z.plus) g, ap (λ (z : Amount). z.minus) g, s.is k b, place_other i k (t * v) j)

pub brought_stands : (n m : ℕ) (a : List Amount) (q : Annotation) (es : List Entry) (out : List Amount) (p : Annotation) → Ranged n m es → Stands n a q → Stands m out p →
    Stands m (brought (amounts 1) out es a) (λ k. p k + i.moved es q k)
brought_stands n m a q [] out p r s o = same_annotation m out p (λ k. p k + 0) o (λ k b. omega arith)
brought_stands n m a q (e ∷ es) out p r s o =
    let next = λ (k : ℕ). p k + at_place e.to k (e.times * q e.from) in
    same_annotation m (brought (amounts 1) out (e ∷ es) a) (λ k. next k + i.moved es q k) (λ k. p k + i.moved (e ∷ es) q k)
    (brought_stands n m a q es (added (amounts 1) out e.to e.times (get a e.from)) next r.2 s (added_stands m out p e.to e.times (get a e.from) (q e.from) o r.1 (s.is e.from r.0)))
    (λ k b. omega arith)

pub nothing_at : {E : Type 0} (A : Numbers E) (n k : ℕ) → at A (nothing A n) k ≡ A.none
nothing_at A zero k = refl
nothing_at A (suc n) zero = refl
nothing_at A (suc n) (suc k) = nothing_at A n k

pub nothing_len : {E : Type 0} (A : Numbers E) (n : ℕ) → length (nothing A n) ≡ n
nothing_len A zero = refl
nothing_len A (suc n) = ap suc (nothing_len A n)

pub nothing_stands : (n : ℕ) → Stands n (nothing (amounts 1) n) (λ k. 0)
nothing_stands n = record {
  len = nothing_len (amounts 1) n;
  is = λ k b. let same : get (nothing (amounts 1) n) k ≡ record { plus = 0; minus = 0 } = nothing_at (amounts 1) n k in
      omega (arith, ap (λ (z : Amount). z.plus) same, ap (λ (z : Amount). z.minus) same);
}

pub moved_stands : (n : ℕ) (a : List Amount) (q : Annotation) (s : Step) → Ranged n s.size s.entries → Stands n a q → Stands s.size (moved (amounts 1) s a) (i.moved s.entries q)
moved_stands n a q s r h =
    same_annotation s.size (moved (amounts 1) s a) (λ k. 0 + i.moved s.entries q k) (i.moved s.entries q)
    (brought_stands n s.size a q s.entries (nothing (amounts 1) s.size) (λ k. 0) r h (nothing_stands s.size)) (λ k b. omega arith)

-- the first entry pays a price
pub less_stands : (n : ℕ) (a : List Amount) (q : Annotation) (K : ℕ) → Stands n a q → K ≤ q 0 → Stands n (at_zero ((amounts 1).less K) a) (less K q)
less_stands n [] q K s h = record { len = s.len; is = λ k b. absurd (omega (arith, b, s.len)) }
less_stands n (x ∷ a) q K s h = record { len = s.len; is = by } where
  by : (k : ℕ) → k < n → (get ((amounts 1).less K x ∷ a) k).plus ≡ less K q k + (get ((amounts 1).less K x ∷ a) k).minus
  by zero b = omega (arith, s.is 0 b, h)
  by (suc k) b = s.is (suc k) b

-- a price on the right
pub more_stands : (n : ℕ) (a : List Amount) (q : Annotation) (K : ℕ) → Stands n a q → Stands n (at_zero ((amounts 1).plus ((amounts 1).number K)) a) (more K q)
more_stands n [] q K s = record { len = s.len; is = λ k b. absurd (omega (arith, b, s.len)) }
more_stands n (x ∷ a) q K s = record { len = s.len; is = by } where
  by : (k : ℕ) → k < n → (get ((amounts 1).plus ((amounts 1).number K) x ∷ a) k).plus ≡ more K q k + (get ((amounts 1).plus ((amounts 1).number K) x ∷ a) k).minus
  by zero b = omega (arith, s.is 0 b)
  by (suc k) b = s.is (suc k) b

pub behind_stands : (n : ℕ) (x : Amount) (a : List Amount) (q : Annotation) → Stands (suc n) (x ∷ a) q → Stands n a (λ k. q (suc k))
behind_stands n x a q s = record { len = omega (arith, s.len); is = λ k b. s.is (suc k) (omega (arith, b)) }

-- rows of two annotations hold exactly where the first is at least the second
pub covers_to : (n m : ℕ) (a b : List Amount) (q r : Annotation) (path : List ℕ) (j : ℕ) → m ≤ n → Stands n a q → Stands m b r → ((k : ℕ) → k < m → r k ≤ q k) →
    AllMeet (numbered path j (against (amounts 1) a b))
covers_to n m a [] q r path j h s t c = tt
covers_to n m [] (y ∷ b) q r path j h s t c = absurd (omega (arith, h, s.len, t.len))
covers_to n zero (x ∷ a) (y ∷ b) q r path j h s t c = absurd (omega (arith, t.len))
covers_to zero m (x ∷ a) (y ∷ b) q r path j h s t c = absurd (omega (arith, s.len))
covers_to (suc n) (suc m) (x ∷ a) (y ∷ b) q r path j h s t c = (
  omega (arith, s.is 0 (omega arith), t.is 0 (omega arith), c 0 (omega arith)),
  covers_to n m a b (λ k. q (suc k)) (λ k. r (suc k)) path (suc j) (omega (arith, h)) (behind_stands n x a q s) (behind_stands m y b r t) (λ k b. c (suc k) (omega (arith, b))),
)

pub covers_from : (n m : ℕ) (a b : List Amount) (q r : Annotation) (path : List ℕ) (j : ℕ) → m ≤ n → Stands n a q → Stands m b r → AllMeet (numbered path j (against (amounts 1) a b)) →
    (k : ℕ) → k < m → r k ≤ q k
covers_from n m a [] q r path j h s t c k b = absurd (omega (arith, b, t.len))
covers_from n m [] (y ∷ b) q r path j h s t c k l = absurd (omega (arith, h, s.len, t.len))
covers_from n zero (x ∷ a) (y ∷ b) q r path j h s t c k l = absurd (omega (arith, l))
covers_from zero m (x ∷ a) (y ∷ b) q r path j h s t c k l = absurd (omega (arith, s.len))
covers_from (suc n) (suc m) (x ∷ a) (y ∷ b) q r path j h s t c zero l = omega (arith, s.is 0 (omega arith), t.is 0 (omega arith), c.0)
covers_from (suc n) (suc m) (x ∷ a) (y ∷ b) q r path j h s t c (suc k) l =
    covers_from n m a b (λ k. q (suc k)) (λ k. r (suc k)) path (suc j) (omega (arith, h)) (behind_stands n x a q s) (behind_stands m y b r t) c.1 k (omega (arith, l))
