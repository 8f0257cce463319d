-- A walk over two rows of whole numbers, column by column.
use Rattle.std.proofs.Common.{◌≡◌, ◌≢◌, refl, sym, ap, subst, ◌∙◌, ℕ, zero, suc, ◌<◌, ◌≤◌, ◌+◌, ◌*◌, [], ◌∷◌, ◌++◌, take, drop, take-append-drop, negsuc, is_ok, Result, Ok, Err, OnOk, to_z, of_z, w64, length, arith, ℤ, pos, ◌<ℤ◌, ◌≤ℤ◌, ◌+ℤ◌, ◌-ℤ◌, ◌*ℤ◌, unsigned_abs, ◌^◌, ◌-◌, Bool, true, false, ◌==◌, if◌then◌else◌, inl, inr}
use Rattle.std.proofs.lemmas.Int.{ints, unsigned_abs-mul}
use Rattle.std.proofs.Math.Nat.{mul-pos, mul-le-mul}
use Rattle.std.proofs.lemmas.Bool.Decides.{nat_tests}
use Rattle.std.specs.List.{AllWithin, HoldsAt}
use Rattle.std.specs.Ordering.{int_eq}
use Rattle.std.specs.declared.alloc.AllocError.{AllocError}
use Rattle.simplex_rows.specs.ShortRows.{Wholes, whole_at, AscendsFrom, AreWithin, WholesEndBefore, put_whole, IsCombined}
use Rattle.simplex_rows.specs.Combining.{times, TimesFit, first_at, after, WholesStartAt, CanCombine}
use Rattle.simplex_rows.proofs.Wholes.{end_up_to, at_within, kept_whole, before_or_from, none_before}
use Rattle.simplex_rows.proofs.FewAppending.{ascend_on, end_both}

-- the numbers before and after a place
pub ends_before : (c n : ℕ) (es : Wholes) → AllWithin (λ e. e.0 < c) es 0 n → WholesEndBefore c (take n es)
ends_before c zero es h = tt
ends_before c (suc n) [] h = tt
ends_before c (suc n) (e ∷ es) h = (h 0 e (omega arith) (omega arith), ends_before c n es (λ i d from lt. h (suc i) d (omega arith) (omega arith)))

pub starts_at : (c n : ℕ) (es : Wholes) → (n < length es → HoldsAt (λ e. c ≤ e.0) es n) → WholesStartAt c (drop n es)
starts_at c zero [] h = tt
starts_at c zero (e ∷ es) h = h (omega arith) e
starts_at c (suc n) [] h = tt
starts_at c (suc n) (e ∷ es) h = starts_at c n es (λ lt d. h (omega arith) d)

none_from : (b c : ℕ) (es : Wholes) → WholesEndBefore b es → b ≤ c → whole_at c es ≡ pos 0
none_from b c [] e h = refl
none_from b c (d ∷ es) e h =
    let l = e.0 in
    let t : (d.0 == c) ≡ false = grind (arith, nat_tests) in
    rw t (none_from b c es e.1 h)

-- a number of two rows, one after the other
at_first : (b c : ℕ) (es rest : Wholes) → AscendsFrom b rest → c < b → whole_at c (es ++ rest) ≡ whole_at c es
at_first b c [] rest s h = none_before b c rest s h
at_first b c (e ∷ es) rest s h = ap (λ (n : ℤ). if e.0 == c then e.1 else n) (at_first b c es rest s h)

at_second : (b c : ℕ) (es rest : Wholes) → WholesEndBefore b es → b ≤ c → whole_at c (es ++ rest) ≡ whole_at c rest
at_second b c [] rest e h = refl
at_second b c (d ∷ es) rest e h =
    let l = e.0 in
    let t : (d.0 == c) ≡ false = grind (arith, nat_tests) in
    rw t (at_second b c es rest e.1 h)

-- where two rows ascend one after the other, the first does, and the second does from any column on at which it starts
ascends_first : (b : ℕ) (es rest : Wholes) → AscendsFrom b (es ++ rest) → AscendsFrom b es
ascends_first b [] rest s = tt
ascends_first b (e ∷ es) rest s = (s.0, s.1, ascends_first (suc e.0) es rest s.2)

starts_from : (b c : ℕ) (es : Wholes) → AscendsFrom b es → WholesStartAt c es → AscendsFrom c es
starts_from b c [] s h = tt
starts_from b c (e ∷ es) s h = (h, s.1, s.2)

ascends_second : (b c : ℕ) (es rest : Wholes) → AscendsFrom b (es ++ rest) → WholesStartAt c rest → AscendsFrom c rest
ascends_second b c [] rest s h = starts_from b c rest s h
ascends_second b c (e ∷ es) rest s h = ascends_second (suc e.0) c es rest s.2 h

-- p times a row
product_not_zero : (p n : ℤ) → pos 0 <ℤ p → n ≢ pos 0 → p *ℤ n ≢ pos 0
product_not_zero p n h z e =
    let size : unsigned_abs p * unsigned_abs n ≡ 0 = sym (unsigned_abs-mul p n) ∙ ap unsigned_abs e in
    let p_size : 0 < unsigned_abs p = omega (arith, ints) in
    let n_size : 0 < unsigned_abs n = grind (arith, ints) in
    let product : 0 < unsigned_abs p * unsigned_abs n = mul-pos p_size n_size in
    absurd (omega arith)

times_ascends : (p : ℤ) (b : ℕ) (es : Wholes) → pos 0 <ℤ p → AscendsFrom b es → AscendsFrom b (times p es)
times_ascends p b [] h s = tt
times_ascends p b (e ∷ es) h s = (s.0, product_not_zero p e.1 h s.1, times_ascends p (suc e.0) es h s.2)

times_end : (p : ℤ) (c : ℕ) (es : Wholes) → WholesEndBefore c es → WholesEndBefore c (times p es)
times_end p c [] e = tt
times_end p c (d ∷ es) e = (e.0, times_end p c es e.1)

times_zero : (p : ℤ) → pos 0 ≡ p *ℤ pos 0
times_zero p = omega (arith, ints)

at_times : (p : ℤ) (c : ℕ) (es : Wholes) → whole_at c (times p es) ≡ p *ℤ whole_at c es
at_times p c [] = times_zero p
at_times p c ((k, n) ∷ es) = by (k == c) (at_times p c es)
  where
    by : (t : Bool) → whole_at c (times p es) ≡ p *ℤ whole_at c es → (if t then p *ℤ n else whole_at c (times p es)) ≡ p *ℤ (if t then n else whole_at c es)
    by true e = refl
    by false e = e

pub fit_first : (p : ℤ) (es rest : Wholes) → TimesFit p (es ++ rest) → TimesFit p es
fit_first p [] rest f = tt
fit_first p (e ∷ es) rest f = (f.0, fit_first p es rest f.1)

pub fit_second : (p : ℤ) (es rest : Wholes) → TimesFit p (es ++ rest) → TimesFit p rest
fit_second p [] rest f = f
fit_second p (e ∷ es) rest f = fit_second p es rest f.1

-- the first number, and those after it
first_is : (c : ℕ) (es : Wholes) → AscendsFrom c es → first_at c es ≡ whole_at c es
first_is c [] s = refl
first_is c ((k, n) ∷ es) s = by (k == c) refl
  where
    by : (t : Bool) → (k == c) ≡ t → (if t then n else pos 0) ≡ (if t then n else whole_at c es)
    by true e = refl
    by false e = let l = s.0 in sym (none_before (suc k) c es s.2 (grind (arith, nat_tests)))

after_ascends : (c : ℕ) (es : Wholes) → AscendsFrom c es → AscendsFrom (suc c) (after c es)
after_ascends c [] s = tt
after_ascends c ((k, n) ∷ es) s = by (k == c) refl
  where
    by : (t : Bool) → (k == c) ≡ t → AscendsFrom (suc c) (if t then es else (k, n) ∷ es)
    by true e = let q : k ≡ c = grind (arith, nat_tests) in subst (λ (j : ℕ). AscendsFrom (suc j) es) q s.2
    by false e = let l = s.0 in (grind (arith, nat_tests), s.1, s.2)

after_other : (c k : ℕ) (es : Wholes) → c < k → whole_at k (after c es) ≡ whole_at k es
after_other c k [] h = refl
after_other c k ((j, n) ∷ es) h = by (j == c) refl
  where
    by : (t : Bool) → (j == c) ≡ t → whole_at k (if t then es else (j, n) ∷ es) ≡ whole_at k ((j, n) ∷ es)
    by true e = let t : (j == k) ≡ false = grind (arith, nat_tests) in rw t refl
    by false e = refl

after_fits : (p : ℤ) (c : ℕ) (es : Wholes) → TimesFit p es → TimesFit p (after c es)
after_fits p c [] f = tt
after_fits p c ((k, n) ∷ es) f = by (k == c)
  where
    by : (t : Bool) → TimesFit p (if t then es else (k, n) ∷ es)
    by true = f.1
    by false = f

-- the number that is put
put_ascends : (c : ℕ) (n : ℤ) → AscendsFrom c (put_whole c n [])
put_ascends c n = by (int_eq n (pos 0)) refl
  where
    by : (t : Bool) → int_eq n (pos 0) ≡ t → AscendsFrom c (if t then [] else (c, n) ∷ [])
    by true e = tt
    by false e = (omega arith, (λ z. grind (arith, nat_tests)), tt)

put_ends : (c : ℕ) (n : ℤ) → WholesEndBefore (suc c) (put_whole c n [])
put_ends c n = by (int_eq n (pos 0))
  where
    by : (t : Bool) → WholesEndBefore (suc c) (if t then [] else (c, n) ∷ [])
    by true = tt
    by false = (omega arith, tt)

put_at : (c : ℕ) (n : ℤ) → whole_at c (put_whole c n []) ≡ n
put_at c n = by (int_eq n (pos 0)) refl
  where
    by : (t : Bool) → int_eq n (pos 0) ≡ t → whole_at c (if t then [] else (c, n) ∷ []) ≡ n
    by true e = let z : n ≡ pos 0 = grind (arith, nat_tests) in sym z
    by false e = let t : (c == c) ≡ true = grind (arith, nat_tests) in rw t refl

less_none : (p q a : ℤ) → p *ℤ a ≡ p *ℤ a -ℤ q *ℤ pos 0
less_none p q a = let z : q *ℤ pos 0 ≡ pos 0 = sym (times_zero q) in rw z (omega (arith, ints))

-- what is made before column `from`, and what is left of the rows from there on
pub record SoFar (p q : ℤ) (xs qs : Wholes) (from : ℕ) (row lead out : Wholes) : Type 0 where
  pub row_from : AscendsFrom from row
  pub lead_from : AscendsFrom from lead
  pub made : AscendsFrom 0 out
  pub before : WholesEndBefore from out
  pub done : (k : ℕ) → k < from → whole_at k out ≡ p *ℤ whole_at k xs -ℤ q *ℤ whole_at k qs
  pub row_left : (k : ℕ) → from ≤ k → whole_at k row ≡ whole_at k xs
  pub lead_left : (k : ℕ) → from ≤ k → whole_at k lead ≡ whole_at k qs
  pub fits : TimesFit p row

pub record Reached (p q : ℤ) (xs qs row lead out : Wholes) : Type 0 where
  pub from : ℕ
  pub so_far : SoFar p q xs qs from row lead out

-- a piece more, up to a later column
goes_on : (p q : ℤ) (xs qs row lead out row' lead' piece : Wholes) (from to : ℕ) → SoFar p q xs qs from row lead out → from ≤ to → AscendsFrom from piece → WholesEndBefore to piece → AscendsFrom to row' → AscendsFrom to lead' → TimesFit p row'
    → ((k : ℕ) → from ≤ k → k < to → whole_at k piece ≡ p *ℤ whole_at k row -ℤ q *ℤ whole_at k lead) → ((k : ℕ) → to ≤ k → whole_at k row' ≡ whole_at k row) → ((k : ℕ) → to ≤ k → whole_at k lead' ≡ whole_at k lead)
    → SoFar p q xs qs to row' lead' (out ++ piece)
goes_on p q xs qs row lead out row' lead' piece from to so_far le s e r l f each row_same lead_same = record {
  row_from = r;
  lead_from = l;
  made = ascend_on 0 from out piece so_far.made so_far.before (omega arith) s;
  before = end_both to out piece (end_up_to from to out so_far.before le) e;
  done = λ k lt. elim (before_or_from k from) [
    | inl b ↦ at_first from k out piece s b ∙ so_far.done k b
    | inr g ↦ at_second from k out piece so_far.before g ∙ rw (← so_far.row_left k g, ← so_far.lead_left k g) (each k g lt)
  ];
  row_left = λ k g. row_same k g ∙ so_far.row_left k (omega arith);
  lead_left = λ k g. lead_same k g ∙ so_far.lead_left k (omega arith);
  fits = f;
}

-- a turn of the walk: the lead's next number b is at c, and the row's numbers before c come first
module _ (p q : ℤ) (xs qs row lead out : Wholes) (reached : Reached p q xs qs row lead out) (c : ℕ) (b : ℤ) (later : Wholes) (lead_is : lead ≡ (c, b) ∷ later) (front rest : Wholes) (row_is : row ≡ front ++ rest) (ends : WholesEndBefore c front) where
  lead_at : AscendsFrom reached.from ((c, b) ∷ later)
  lead_at = subst (AscendsFrom reached.from) lead_is reached.so_far.lead_from

  row_at : AscendsFrom reached.from (front ++ rest)
  row_at = subst (AscendsFrom reached.from) row_is reached.so_far.row_from

  row_fits : TimesFit p (front ++ rest)
  row_fits = subst (TimesFit p) row_is reached.so_far.fits

  pub front_fits : TimesFit p front
  front_fits = fit_first p front rest row_fits

  pub lead_number : b ≡ whole_at c qs
  lead_number =
      let t : (c == c) ≡ true = grind (arith, nat_tests) in
      let here : whole_at c ((c, b) ∷ later) ≡ b = rw t refl in
      sym here ∙ ap (whole_at c) (sym lead_is) ∙ reached.so_far.lead_left c lead_at.0

  module _ (starts : WholesStartAt c rest) where
    rest_at : AscendsFrom c rest
    rest_at = ascends_second reached.from c front rest row_at starts

    pub row_number : first_at c rest ≡ whole_at c xs
    row_number = first_is c rest rest_at ∙ sym (at_second c c front rest ends (omega arith)) ∙ ap (whole_at c) (sym row_is) ∙ reached.so_far.row_left c lead_at.0

    module _ (positive : pos 0 <ℤ p) where
      passed : SoFar p q xs qs c rest ((c, b) ∷ later) (out ++ times p front)
      passed = goes_on p q xs qs row lead out rest ((c, b) ∷ later) (times p front) reached.from c reached.so_far lead_at.0
          (times_ascends p reached.from front positive (ascends_first reached.from front rest row_at)) (times_end p c front ends) rest_at (omega arith, lead_at.1, lead_at.2) (fit_second p front rest row_fits)
          (λ k g lt. at_times p k front ∙ rw (row_is, lead_is, at_first c k front rest rest_at lt, none_before c k ((c, b) ∷ later) (omega arith, lead_at.1, lead_at.2) lt) (less_none p q (whole_at k front)))
          (λ k g. sym (at_second c k front rest ends g) ∙ ap (whole_at k) (sym row_is))
          (λ k g. ap (whole_at k) (sym lead_is))

      turned : SoFar p q xs qs (suc c) (after c rest) later ((out ++ times p front) ++ put_whole c (p *ℤ first_at c rest -ℤ q *ℤ b) [])
      turned = goes_on p q xs qs rest ((c, b) ∷ later) (out ++ times p front) (after c rest) later (put_whole c (p *ℤ first_at c rest -ℤ q *ℤ b) []) c (suc c) passed (omega arith)
          (put_ascends c (p *ℤ first_at c rest -ℤ q *ℤ b)) (put_ends c (p *ℤ first_at c rest -ℤ q *ℤ b)) (after_ascends c rest rest_at) lead_at.2 (after_fits p c rest (fit_second p front rest row_fits))
          (λ k g lt. let same : k ≡ c = omega arith in subst (λ (j : ℕ). whole_at j (put_whole c (p *ℤ first_at c rest -ℤ q *ℤ b) []) ≡ p *ℤ whole_at j rest -ℤ q *ℤ whole_at j ((c, b) ∷ later)) (sym same)
          (let t : (c == c) ≡ true = grind (arith, nat_tests) in put_at c (p *ℤ first_at c rest -ℤ q *ℤ b) ∙ rw (t, first_is c rest rest_at) refl))
          (λ k g. after_other c k rest (omega arith))
          (λ k g. let t : (c == k) ≡ false = grind (arith, nat_tests) in rw t refl)

      pub turns : (x : ℤ) (new rest' out' : Wholes) → x ≡ first_at c rest → rest' ≡ after c rest → out' ≡ out ++ times p front → new ≡ out' ++ put_whole c (p *ℤ x -ℤ q *ℤ b) [] → Reached p q xs qs rest' later new
      turns x new rest' out' x_is rest_is out_is new_is = record { from = suc c; so_far = rw (new_is, out_is, x_is, rest_is) turned }

-- the end of the walk, where the lead has no more
pub record Combined (p q : ℤ) (xs qs new : Wholes) : Type 0 where
  pub each : IsCombined p q qs xs new
  pub ascends : AscendsFrom 0 new

pub ended : (p q : ℤ) (xs qs row lead out new : Wholes) → Reached p q xs qs row lead out → lead ≡ [] → pos 0 <ℤ p → new ≡ out ++ times p row → Combined p q xs qs new
ended p q xs qs row lead out new reached lead_is positive new_is = let from = reached.from in let so_far = reached.so_far in subst (Combined p q xs qs) (sym new_is) (record {
  each = record {
    each = λ k. elim (before_or_from k from) [
      | inl b ↦ at_first from k out (times p row) ascends b ∙ so_far.done k b
      | inr g ↦ at_second from k out (times p row) so_far.before g ∙ at_times p k row ∙ rw (← so_far.row_left k g, ← so_far.lead_left k g, lead_is) (less_none p q (whole_at k row))
    ];
  };
  ascends = ascend_on 0 from out (times p row) so_far.made so_far.before (omega arith) ascends;
})
  where
    ascends : AscendsFrom reached.from (times p row)
    ascends = times_ascends p reached.from row positive reached.so_far.row_from

-- products that are within those of the bounds
pub products_within : (p x row q y lead m : ℤ) → pos 0 <ℤ p → pos (unsigned_abs x) ≤ℤ row → pos (unsigned_abs y) ≤ℤ lead → (p *ℤ row +ℤ pos (unsigned_abs q) *ℤ lead) ≤ℤ m → pos (unsigned_abs (p *ℤ x) + unsigned_abs (q *ℤ y)) ≤ℤ m
products_within (negsuc p) x row q y lead m h w v f = absurd (omega (arith, ints))
products_within (pos p) x (negsuc row) q y lead m h w v f = absurd (omega (arith, ints))
products_within (pos p) x (pos row) q y (negsuc lead) m h w v f = absurd (omega (arith, ints))
products_within (pos p) x (pos row) q y (pos lead) m h w v f =
    let first : p * unsigned_abs x ≤ p * row = mul-le-mul (omega arith) (omega (arith, ints)) in
    let second : unsigned_abs q * unsigned_abs y ≤ unsigned_abs q * lead = mul-le-mul (omega arith) (omega (arith, ints)) in
    rw (unsigned_abs-mul (pos p) x, unsigned_abs-mul q y) (omega (arith, ints))

fit_each : (p row q lead : ℤ) (es : Wholes) → pos 0 <ℤ p → pos 0 <ℤ lead → AreWithin row es → (p *ℤ row +ℤ pos (unsigned_abs q) *ℤ lead) <ℤ pos (2 ^ 63) → TimesFit p es
fit_each p row q lead [] h g w f = tt
fit_each p row q lead (e ∷ es) h g w f =
    let both = products_within p e.1 row q (pos 0) lead (pos (2 ^ 63 - 1)) h w.0 (omega (arith, ints)) (omega (arith, ints)) in
    (omega (arith, ints), fit_each p row q lead es h g w.1 f)

-- the walk's beginning
pub starts : (p q : ℤ) (xs qs : Wholes) → CanCombine p q xs qs → Reached p q xs qs xs qs []
starts p q xs qs can = record {
  from = 0;
  so_far = record {
    row_from = can.row_ascends;
    lead_from = can.lead_ascends;
    made = tt;
    before = tt;
    done = λ k lt. absurd (omega arith);
    row_left = λ k g. refl;
    lead_left = λ k g. refl;
    fits = fit_each p can.row_bound q can.lead_bound xs can.positive can.lead_positive can.row_within can.fits;
  };
}

-- numbers of the rows are short, and so are the products
module _ (p q : ℤ) (xs qs : Wholes) (can : CanCombine p q xs qs) (c : ℕ) where
  row_at_within : pos (unsigned_abs (whole_at c xs)) ≤ℤ can.row_bound
  row_at_within = let h = can.row_positive in at_within can.row_bound xs c (omega (arith, ints)) can.row_within

  lead_at_within : pos (unsigned_abs (whole_at c qs)) ≤ℤ can.lead_bound
  lead_at_within = let h = can.lead_positive in at_within can.lead_bound qs c (omega (arith, ints)) can.lead_within

  pub row_kept : to_z w64 (of_z w64 (whole_at c xs)) ≡ whole_at c xs
  row_kept = let w = row_at_within in let s = can.row_short in kept_whole (whole_at c xs) (omega (arith, ints))

  pub lead_kept : to_z w64 (of_z w64 (whole_at c qs)) ≡ whole_at c qs
  lead_kept = let w = lead_at_within in let s = can.lead_short in kept_whole (whole_at c qs) (omega (arith, ints))

  pub products_fit : (unsigned_abs (p *ℤ whole_at c xs) + unsigned_abs (q *ℤ whole_at c qs)) < 2 ^ 63
  products_fit =
      let f = can.fits in
      let both = products_within p (whole_at c xs) can.row_bound q (whole_at c qs) can.lead_bound (pos (2 ^ 63 - 1)) can.positive row_at_within lead_at_within (omega (arith, ints)) in
      omega (arith, ints)

pub split_is : (i : ℕ) (es front rest : Wholes) → front ≡ take i es → rest ≡ drop i es → es ≡ front ++ rest
split_is i es front rest f r = rw (f, r) (sym (take-append-drop i es))

times_one : (es : Wholes) → times (pos 1) es ≡ es
times_one [] = refl
times_one (e ∷ es) = let n : pos 1 *ℤ e.1 ≡ e.1 = omega (arith, ints) in rw (n, times_one es) refl

pub all_put : (r : Result (Unit {0}) AllocError) (p : ℤ) (old ns new : Wholes) → p ≡ pos 1 → new ≡ (if is_ok r then old ++ ns else old) → OnOk r (new ≡ old ++ times p ns)
all_put (Ok u) p old ns new one e = rw (one, times_one ns) e
all_put (Err a) p old ns new one e = tt

-- a difference of products that has 63 bits
pub difference_kept : (a b : ℤ) → (unsigned_abs a + unsigned_abs b) < 2 ^ 63 → to_z w64 (of_z w64 (a -ℤ b)) ≡ a -ℤ b
difference_kept a b h = kept_whole (a -ℤ b) (grind (arith, ints))

-- numbers put one by one
pub record PutSoFar (p : ℤ) (start all out left : Wholes) : Type 0 where
  pub joined : out ++ times p left ≡ start ++ times p all
  pub fits : TimesFit p left
