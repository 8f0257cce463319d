-- A row that is made column by column.
use Rattle.std.proofs.Common.{◌*ℤ◌, ◌≡◌, ◌≢◌, refl, sym, ap, subst, ◌∙◌, ℕ, zero, suc, ◌+◌, ◌-◌, ◌<◌, ◌≤◌, ℤ, pos, arith, List, [], ◌∷◌, ◌++◌, length, map, get_or, slice_set, take, Result, Ok, Err, OnOk, IsErrAnd, ◌⊎◌, inl, inr}
use Rattle.std.proofs.lemmas.List.{length-map}
use Rattle.frac128.specs.declared.Frac.{Frac}
use Rattle.frac128.specs.Nought.{nought}
use Rattle.frac128.specs.Values.{numerator, denominator}
use Rattle.simplex_rows.specs.Entries.{Entries, at, EndsBefore}
use Rattle.simplex_rows.specs.Sweeping.{AddsWhole}
use Rattle.simplex_rows.proofs.Appending.{none_from, before_up_to}
use Rattle.linear_rows.specs.Terms.{Terms, SparseRow, coefficient, unknown_at, number_at, IsSparse}
use Rattle.linear_rows.proofs.Places.{coefficient_at as coefficient_of}
use Rattle.simplex_spec.specs.Places as places
use Rattle.std.proofs.lemmas.Bool.Decides.{nat_tests}
use Rattle.linear_rows.specs.Systems.{LinearSystem, AllBelow}
use lib.ListN.{length-append}
use Rattle.simplex_spec.specs.Tableaux.{right, opening_row, opening, entry}
use Rattle.simplex_spec.specs.Refusals.{least_number}
use Rattle.simplex_spec.proofs.Opening.{coefficients, at_slack, at_right, only_here, only_there, at-front, length-opening_row, length-opened, row_opened, value_at_slack}
use Rattle.simplex.specs.Standing.{Stands, RowStands, RowsStand, entries_at}
use Rattle.simplex.proofs.Steps.{entry_in, entry_last}
use Rattle.simplex.proofs.Lifting.{stands_with}
use Rattle.simplex.proofs.Rows.{value_of}
use Rattle.simplex.proofs.Sweeping.{here, there, length-slice_set}
use Rattle.simplex.specs.Opening.{OpensTo, OpeningLeaves, AreEmpty, AddsInRow, AddsColumn, ColumnsOpen}
use Rattle.simplex_spec.proofs.Pivoting.{same_or_not}
use Rattle.simplex.proofs.Rows.{earlier_or_here}

whole_stands : (x : Frac) (n : ℤ) → x.num ≡ n → x.den ≡ 1 → Stands (pos 1) n x
whole_stands x n e f = let is : x.num *ℤ pos 1 ≡ n *ℤ pos x.den = rw (e, f) refl in record { is = is }

-- what AddsWhole tells of the other columns
other_parts : {c : ℕ} {n : ℤ} {old new : Entries} → AddsWhole c n old new → (k : ℕ) → k ≢ c → (numerator (at k new) ≡ numerator (at k old)) × (denominator (at k new) ≡ denominator (at k old))
other_parts a k n = a.others k n

stands_still : {c : ℕ} {n m : ℤ} {old new : Entries} → AddsWhole c n old new → (k : ℕ) → k ≢ c → Stands (pos 1) m (at k old) → Stands (pos 1) m (at k new)
stands_still {m = m} {old = old} {new = new} a k q h = let e = other_parts a k q in stands_with (pos 1) m (at k old) (at k new) e.0 e.1 h

pub opens_more : (j : ℕ) (n : ℤ) (ns : List ℤ) (es new : Entries) → OpensTo j ns es → AddsWhole j n es new → n ≡ places.at ns j → EndsBefore (j + 1) new → OpensTo (j + 1) ns new
opens_more j n ns es new o a e b = record {
  before = b;
  each = λ c h. elim (earlier_or_here c j h) [
    | inl l ↦ stands_still a c (λ q. omega arith) (o.each c l)
    | inr q ↦ subst (λ (z : ℕ). Stands (pos 1) (places.at ns z) (at z new)) (sym q) (whole_stands (at j new) (places.at ns j) (a.num ∙ e) a.den)
  ];
}

pub coefficient_at : (u : ℕ) (rows : List SparseRow) (j : ℕ) (d : SparseRow) → j < length rows → d ≡ get_or rows j d → coefficient u d.terms ≡ places.at (map (λ row. coefficient u row.terms) rows) j
coefficient_at u [] j d h e = absurd (omega arith)
coefficient_at u (r ∷ rows) zero d h e = ap (λ (row : SparseRow). coefficient u row.terms) e
coefficient_at u (r ∷ rows) (suc j) d h e = coefficient_at u rows j d (omega arith) e

-- a row has no number past its end
past : (xs : List ℤ) (c : ℕ) → length xs ≤ c → places.at xs c ≡ pos 0
past [] c h = refl
past (x ∷ xs) zero h = absurd (omega arith)
past (x ∷ xs) (suc c) h = past xs c (omega arith)

front_or_back : (c n : ℕ) → (c < n) ⊎ ((i : ℕ) × (c ≡ n + i))
front_or_back c n = elim (there c n) [ inl h ↦ inl h | inr h ↦ inr (c - n, omega arith) ]
  where
    there : (c n : ℕ) → (c < n) ⊎ (n ≤ c)
    there c n = grind arith

module _ (s : LinearSystem) (i : ℕ) (inside : i < s.unknowns) (es one new : Entries)
    (o : OpensTo (length s.rows) (coefficients s i) es) (a : AddsWhole (length s.rows + i) (pos 1) es one) (b : AddsWhole (right s) (places.at s.weights i) one new) where
  unchanged : (c : ℕ) → c ≢ length s.rows + i → c ≢ right s → Stands (pos 1) (places.at (opening_row s i) c) (at c es) → Stands (pos 1) (places.at (opening_row s i) c) (at c new)
  unchanged c n m h = stands_still b c m (stands_still a c n h)

  -- a place of the opening row that is 0
  no_slack : (k : ℕ) → k ≢ i → k ≢ s.unknowns → places.at (opening_row s i) (length s.rows + k) ≡ pos 0
  no_slack k n m = elim (front_or_back k s.unknowns) [
    | inl h ↦ at_slack s i k h ∙ only_there s.unknowns i k (pos 1) (λ e. n (sym e))
    | inr h ↦ past (opening_row s i) (length s.rows + k) (let l = length-opening_row s i in let e = h.1 in omega arith)
  ]

  nought_stands : Stands (pos 1) (pos 0) nought
  nought_stands = record { is = refl }

  pub opens_row : RowStands (pos 1) (opening_row s i) new
  opens_row = record {
    each = λ c. elim (same_or_not c (right s)) [
      | inl e ↦ subst (λ (z : ℕ). Stands (pos 1) (places.at (opening_row s i) z) (at z new)) (sym e) (whole_stands (at (right s) new) (places.at (opening_row s i) (right s)) (b.num ∙ sym (at_right s i)) b.den)
      | inr m ↦ elim (same_or_not c (length s.rows + i)) [
        | inl e ↦ subst (λ (z : ℕ). Stands (pos 1) (places.at (opening_row s i) z) (at z new)) (sym e)
            (stands_still b (length s.rows + i) (λ q. omega arith)
            (whole_stands (at (length s.rows + i) one) (places.at (opening_row s i) (length s.rows + i)) (a.num ∙ sym (at_slack s i i inside ∙ only_here s.unknowns i (pos 1) inside)) a.den))
        | inr n ↦ elim (front_or_back c (length s.rows)) [
          | inl h ↦ unchanged c n m (subst (λ (z : ℤ). Stands (pos 1) z (at c es)) (sym (at-front (coefficients s i) _ c (let l = length-map s.rows (λ (row : SparseRow). coefficient i row.terms) in omega arith))) (o.each c h))
          | inr h ↦ unchanged c n m (subst (Stands (pos 1) (places.at (opening_row s i) c)) (sym (none_from (length s.rows) c es o.before (let e = h.1 in omega arith)))
              (subst (λ (z : ℤ). Stands (pos 1) z nought) (sym (ap (places.at (opening_row s i)) h.1 ∙ no_slack h.0 (λ e. n (h.1 ∙ ap (λ (z : ℕ). length s.rows + z) e)) (λ e. m (h.1 ∙ ap (λ (z : ℕ). length s.rows + z) e)))) nought_stands))
        ]
      ]
    ];
  }

-- rows without numbers
empty_appended : (rows : List Entries) → ((i : ℕ) → entries_at rows i ≡ []) → (i : ℕ) → entries_at (rows ++ [] ∷ []) i ≡ []
empty_appended [] h zero = refl
empty_appended [] h (suc i) = refl
empty_appended (r ∷ rows) h zero = h zero
empty_appended (r ∷ rows) h (suc i) = empty_appended rows (λ k. h (suc k)) i

pub empty_more : (n : ℕ) (rows : List Entries) → AreEmpty n rows → AreEmpty (n + 1) (rows ++ [] ∷ [])
empty_more n rows h = record {
  count = length-append rows ([] ∷ []) ∙ (let e = h.count in omega arith);
  each = empty_appended rows h.each;
}

pub no_columns : (n : ℕ) (inequalities : List SparseRow) (rows : List Entries) → AreEmpty n rows → ColumnsOpen 0 n inequalities rows
no_columns n inequalities rows h = record {
  count = h.count;
  each = λ i q. subst (OpensTo 0 (map (λ row. coefficient i row.terms) inequalities)) (sym (h.each i)) (record { before = tt; each = λ c l. absurd (omega arith) });
}

-- one number more, in its row
pub row_added : (c i : ℕ) (n : ℤ) (old : List Entries) (d new : Entries) → i < length old → d ≡ get_or old i d → AddsWhole c n d new → EndsBefore (c + 1) new → AddsInRow c i n old (slice_set old i new)
row_added c i n old d new h e a b = record {
  count = length-slice_set old i new;
  here = subst (AddsWhole c n (entries_at old i)) (sym (here old i new h)) (subst (λ (es : Entries). AddsWhole c n es new) (e ∙ value_of old i d h) a);
  before = subst (EndsBefore (c + 1)) (sym (here old i new h)) b;
  others = there old i new;
}

-- the first terms
first_none : (ts : Terms) (k u : ℕ) → ((m : ℕ) → m < k → unknown_at ts m ≢ u) → coefficient u (take k ts) ≡ pos 0
first_none ts zero u h = refl
first_none [] (suc k) u h = refl
first_none (t ∷ ts) (suc k) u h = grind (arith, nat_tests, h 0 (omega arith), first_none ts k u (λ m l. h (suc m) (omega arith)))

first_last : (ts : Terms) (k u : ℕ) → k < length ts → unknown_at ts k ≡ u → ((m : ℕ) → m < k → unknown_at ts m ≢ u) → coefficient u (take (suc k) ts) ≡ number_at ts k
first_last [] k u h e n = absurd (omega arith)
first_last (t ∷ ts) zero u h e n = grind (arith, nat_tests)
first_last (t ∷ ts) (suc k) u h e n = grind (arith, nat_tests, n 0 (omega arith), first_last ts k u (omega arith) e (λ m l. n (suc m) (omega arith)))

first_other : (ts : Terms) (k u : ℕ) → k < length ts → unknown_at ts k ≢ u → coefficient u (take (suc k) ts) ≡ coefficient u (take k ts)
first_other [] k u h n = absurd (omega arith)
first_other (t ∷ ts) zero u h n = grind (arith, nat_tests)
first_other (t ∷ ts) (suc k) u h n = grind (arith, nat_tests, first_other ts k u (omega arith) n)

-- an unknown with a term is among the n
pub term_inside : (n k : ℕ) (ts : Terms) → IsSparse ts → ((u : ℕ) → n ≤ u → coefficient u ts ≡ pos 0) → k < length ts → unknown_at ts k < n
term_inside n k ts sparse below h = elim (less_or_not (unknown_at ts k) n) [
  | inl l ↦ l
  | inr g ↦ absurd (sparse.none_zero k h (sym (coefficient_of ts sparse (unknown_at ts k) k (record { in_range = h; has_unknown = refl })) ∙ below (unknown_at ts k) g))
]
  where
    less_or_not : (m n : ℕ) → (m < n) ⊎ (n ≤ m)
    less_or_not m n = grind arith

pub term_leaves : (n k i : ℕ) (ts : Terms) → IsSparse ts → ((u : ℕ) → n ≤ u → coefficient u ts ≡ pos 0) → k < length ts → i ≡ unknown_at ts k → number_at ts k ≡ least_number → (i < n) × (coefficient i ts ≡ least_number)
term_leaves n k i ts sparse below h e l = (let b = term_inside n k ts sparse below h in omega arith, coefficient_of ts sparse i k (record { in_range = h; has_unknown = sym e }) ∙ l)

no_number : (c : ℕ) (es : Entries) → EndsBefore c es → AddsWhole c (pos 0) es es
no_number c es h = let e = none_from c c es h (omega arith) in record {
  num = ap (λ (x : Frac). x.num) e;
  den = ap (λ (x : Frac). x.den) e;
  others = λ k n. (refl, refl);
}

pub no_term : (c : ℕ) (rows : List Entries) → ((i : ℕ) → i < length rows → EndsBefore c (entries_at rows i)) → AddsColumn c [] rows rows
no_term c rows h = record {
  count = refl;
  added = λ i q. no_number c (entries_at rows i) (h i q);
  before = λ i q. before_up_to c (c + 1) (entries_at rows i) (h i q) (omega arith);
  kept = λ i e. refl;
}

module _ (c k : ℕ) (ts : Terms) (old rows : List Entries) (sparse : IsSparse ts) (inside : k < length ts) (a : AddsColumn c (take k ts) old rows) where
  not_before : (m : ℕ) → m < k → unknown_at ts m ≢ unknown_at ts k
  not_before m l e = let s = sparse.ascending m k l inside in omega arith

  -- the term's row is as it was
  pub untouched : entries_at rows (unknown_at ts k) ≡ entries_at old (unknown_at ts k)
  untouched = a.kept (unknown_at ts k) (first_none ts k (unknown_at ts k) not_before)

module _ (c k : ℕ) (ts : Terms) (old rows new : List Entries) (sparse : IsSparse ts) (inside : k < length ts) (a : AddsColumn c (take k ts) old rows) (r : AddsInRow c (unknown_at ts k) (number_at ts k) rows new) where
  none_before : (m : ℕ) → m < k → unknown_at ts m ≢ unknown_at ts k
  none_before = not_before c k ts old rows sparse inside a

  here_added : AddsWhole c (coefficient (unknown_at ts k) (take (suc k) ts)) (entries_at old (unknown_at ts k)) (entries_at new (unknown_at ts k))
  here_added = subst (λ (z : ℤ). AddsWhole c z (entries_at old (unknown_at ts k)) (entries_at new (unknown_at ts k))) (sym (first_last ts k (unknown_at ts k) inside refl none_before))
      (subst (λ (es : Entries). AddsWhole c (number_at ts k) es (entries_at new (unknown_at ts k))) (untouched c k ts old rows sparse inside a) r.here)

  others_added : (i : ℕ) → i ≢ unknown_at ts k → AddsWhole c (coefficient i (take k ts)) (entries_at old i) (entries_at rows i) → AddsWhole c (coefficient i (take (suc k) ts)) (entries_at old i) (entries_at new i)
  others_added i n h = subst (λ (z : ℤ). AddsWhole c z (entries_at old i) (entries_at new i)) (sym (first_other ts k i inside (λ e. n (sym e)))) (subst (AddsWhole c (coefficient i (take k ts)) (entries_at old i)) (sym (r.others i n)) h)

  pub term_more : AddsColumn c (take (k + 1) ts) old new
  term_more = subst (λ (m : ℕ). AddsColumn c (take m ts) old new) (let e : suc k ≡ k + 1 = omega arith in e) (record {
    count = r.count ∙ a.count;
    added = λ i q. elim (same_or_not i (unknown_at ts k)) [
      | inl e ↦ subst (λ (z : ℕ). AddsWhole c (coefficient z (take (suc k) ts)) (entries_at old z) (entries_at new z)) (sym e) here_added
      | inr n ↦ others_added i n (a.added i q)
    ];
    before = λ i q. elim (same_or_not i (unknown_at ts k)) [
      | inl e ↦ subst (λ (z : ℕ). EndsBefore (c + 1) (entries_at new z)) (sym e) r.before
      | inr n ↦ subst (EndsBefore (c + 1)) (sym (r.others i n)) (a.before i q)
    ];
    kept = λ i z. elim (same_or_not i (unknown_at ts k)) [
      | inl e ↦ absurd (sparse.none_zero k inside (sym (first_last ts k i inside (sym e) (subst (λ (v : ℕ). (m : ℕ) → m < k → unknown_at ts m ≢ v) (sym e) none_before)) ∙ z))
      | inr n ↦ r.others i n ∙ a.kept i (sym (first_other ts k i inside (λ e. n (sym e))) ∙ z)
    ];
  })

-- one column more
pub column_more : (j n : ℕ) (inequalities : List SparseRow) (d : SparseRow) (rows new : List Entries) → j < length inequalities → d ≡ get_or inequalities j d → ColumnsOpen j n inequalities rows → AddsColumn j d.terms rows new → ColumnsOpen (j + 1) n inequalities new
column_more j n inequalities d rows new h e o a = record {
  count = a.count ∙ o.count;
  each = λ i q. let l : i < length rows = (let c = o.count in omega arith) in
      opens_more j (coefficient i d.terms) (map (λ row. coefficient i row.terms) inequalities) (entries_at rows i) (entries_at new i) (o.each i q) (a.added i l) (coefficient_at i inequalities j d h e) (a.before i l);
}

pub below_at : (n : ℕ) (inequalities : List SparseRow) (j : ℕ) (d : SparseRow) → AllBelow n inequalities → j < length inequalities → d ≡ get_or inequalities j d → (u : ℕ) → n ≤ u → coefficient u d.terms ≡ pos 0
below_at n [] j d b h e = absurd (omega arith)
below_at n (r ∷ inequalities) zero d b h e = λ u q. ap (λ (row : SparseRow). coefficient u row.terms) e ∙ b.0 u q
below_at n (r ∷ inequalities) (suc j) d b h e = below_at n inequalities j d b.1 (omega arith) e

pub column_leaves : (i j c : ℕ) (inequalities : List SparseRow) (d : SparseRow) (ts : Terms) → j < length inequalities → d ≡ get_or inequalities j d → ts ≡ d.terms → c ≡ j → coefficient i ts ≡ least_number → OpeningLeaves (map (λ row. coefficient i row.terms) inequalities) c
column_leaves i j c inequalities d ts h e t q l = record { is = ap (places.at (map (λ row. coefficient i row.terms) inequalities)) q ∙ sym (coefficient_at i inequalities j d h e) ∙ ap (coefficient i) (sym t) ∙ l }

pub on_ok : {A E P Q : Type 0} (r : Result A E) → (P → Q) → OnOk r P → OnOk r Q
on_ok (Ok a) f h = f h
on_ok (Err e) f h = tt

-- the error of an answer that passes it on
pub of_error : {A E : Type 0} (r : Result A E) (e f : E) → IsErrAnd r (λ x. x ≡ e) → r ≡ Err f → e ≡ f
of_error (Ok a) e f h g = absurd (cc)
of_error (Err x) e f h g = sym h ∙ (let p : x ≡ f = cc in p)

-- the slacks and weights of the first k rows, while the others have none
pub record RowsOpen (k : ℕ) (s : LinearSystem) (rows : List Entries) : Type 0 where
  pub count : length rows ≡ s.unknowns
  pub done : (i : ℕ) → i < k → RowStands (pos 1) (opening_row s i) (entries_at rows i)
  pub rest : (i : ℕ) → k ≤ i → i < s.unknowns → OpensTo (length s.rows) (coefficients s i) (entries_at rows i)

pub rows_open_none : (s : LinearSystem) (rows : List Entries) → ColumnsOpen (length s.rows) s.unknowns s.rows rows → RowsOpen 0 s rows
rows_open_none s rows o = record { count = o.count; done = λ i q. absurd (omega arith); rest = λ i g q. o.each i q }

pub rows_open_more : (k : ℕ) (s : LinearSystem) (rows : List Entries) (new : Entries) → k < s.unknowns → RowsOpen k s rows → RowStands (pos 1) (opening_row s k) new → RowsOpen (k + 1) s (slice_set rows k new)
rows_open_more k s rows new h o r = record {
  count = length-slice_set rows k new ∙ o.count;
  done = λ i q. elim (earlier_or_here i k q) [
    | inl l ↦ subst (RowStands (pos 1) (opening_row s i)) (sym (there rows k new i (λ e. omega arith))) (o.done i l)
    | inr e ↦ subst (λ (z : ℕ). RowStands (pos 1) (opening_row s z) (entries_at (slice_set rows k new) z)) (sym e) (subst (RowStands (pos 1) (opening_row s k)) (sym (here rows k new (let c = o.count in omega arith))) r)
  ];
  rest = λ i g q. subst (OpensTo (length s.rows) (coefficients s i)) (sym (there rows k new i (λ e. omega arith))) (o.rest i (omega arith) q);
}

pub rows_open : (k : ℕ) (s : LinearSystem) (rows : List Entries) → s.unknowns ≤ k → RowsOpen k s rows → RowsStand (opening s) rows
rows_open k s rows g o = record {
  count = o.count ∙ sym (length-opened s);
  each = λ i h. let q : i < s.unknowns = (let l = length-opened s in omega arith) in
      subst (λ (ns : List ℤ). RowStands (pos 1) ns (entries_at rows i)) (sym (row_opened s i q)) (o.done i (omega arith));
}

-- where a number of the opening leaves the range
pub coefficient_leaves : (s : LinearSystem) (i c : ℕ) → c < length s.rows → OpeningLeaves (coefficients s i) c → OpeningLeaves (opening_row s i) c
coefficient_leaves s i c h o = record { is = at-front (coefficients s i) _ c (let l = length-map s.rows (λ (row : SparseRow). coefficient i row.terms) in omega arith) ∙ o.is }

pub weight_leaves : (s : LinearSystem) (i c : ℕ) → c ≡ right s → places.at s.weights i ≡ least_number → OpeningLeaves (opening_row s i) c
weight_leaves s i c e h = record { is = ap (places.at (opening_row s i)) e ∙ at_right s i ∙ h }

pub row_leaves : (s : LinearSystem) (i j c : ℕ) → i < s.unknowns → j ≡ i → OpeningLeaves (opening_row s i) c → entry (opening s) j c ≡ least_number
row_leaves s i j c h e o = ap (λ (z : ℕ). entry (opening s) z c) e ∙ entry_in (opening s) i c (let l = length-opened s in omega arith) ∙ ap (λ (ns : List ℤ). places.at ns c) (row_opened s i h) ∙ o.is

pub gains_leave : (s : LinearSystem) (i c : ℕ) → i ≡ s.unknowns → c < length s.rows → OpeningLeaves (map (λ row. row.right) s.rows) c → entry (opening s) i c ≡ least_number
gains_leave s i c e h o = entry_last (opening s) i c (e ∙ sym (length-opened s)) ∙ at-front (map (λ (row : SparseRow). row.right) s.rows) _ c (let l = length-map s.rows (λ (row : SparseRow). row.right) in omega arith) ∙ o.is

-- the right sides
pub at_take : (xs : List ℤ) (n i : ℕ) → i < n → places.at (take n xs) i ≡ places.at xs i
at_take xs zero i h = absurd (omega arith)
at_take [] (suc n) i h = refl
at_take (x ∷ xs) (suc n) zero h = refl
at_take (x ∷ xs) (suc n) (suc i) h = at_take xs n i (omega arith)

pub right_at : (rows : List SparseRow) (j : ℕ) (d : SparseRow) → j < length rows → d ≡ get_or rows j d → d.right ≡ places.at (map (λ row. row.right) rows) j
right_at [] j d h e = absurd (omega arith)
right_at (r ∷ rows) zero d h e = ap (λ (row : SparseRow). row.right) e
right_at (r ∷ rows) (suc j) d h e = right_at rows j d (omega arith) e

-- the gains after the right sides are 0
gains_at : (s : LinearSystem) (c : ℕ) → places.at (opening s).gains c ≡ places.at (map (λ row. row.right) s.rows) c
gains_at s c =
    let long = length-map s.rows (λ (row : SparseRow). row.right) in
    elim (front_or_back c (length s.rows)) [
      | inl h ↦ at-front (map (λ (row : SparseRow). row.right) s.rows) _ c (omega arith)
      | inr h ↦ ap (places.at (opening s).gains) h.1 ∙ value_at_slack s h.0 ∙ sym (past (map (λ (row : SparseRow). row.right) s.rows) c (let e = h.1 in omega arith))
    ]

pub no_right_sides : (ns : List ℤ) (es : Entries) → es ≡ [] → OpensTo 0 ns es
no_right_sides ns es e = subst (OpensTo 0 ns) (sym e) (record { before = tt; each = λ c l. absurd (omega arith) })

pub gains_open : (s : LinearSystem) (es : Entries) → OpensTo (length s.rows) (map (λ row. row.right) s.rows) es → RowStands (pos 1) (opening s).gains es
gains_open s es o = record {
  each = λ c. rw (gains_at s c) (elim (front_or_back c (length s.rows)) [
    | inl l ↦ o.each c l
    | inr g ↦
        let long = length-map s.rows (λ (row : SparseRow). row.right) in
        let e = g.1 in
        rw (none_from (length s.rows) c es o.before (omega arith), past (map (λ row. row.right) s.rows) c (omega arith)) (record { is = refl })
  ]);
}
