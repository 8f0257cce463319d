-- The rows of a task, from what was heard.
use Rattle.std.proofs.Common.{◌≡◌, refl, ap, sym, ◌∙◌, arith, subst, inl, inr, append-nil, append_assoc}
use Rattle.std.proofs.lemmas.List.{length-map}
use Rattle.std.specs.Prelude.{ℕ, zero, suc, ◌+◌, ◌<◌, ◌≤◌, ◌⊎◌, Bool, true, false, cond, not, ◌&&◌, nat_lt, ◌==◌, if◌then◌else◌, is_none, ℤ, pos, ◌-ℤ◌, slice_index_or, List, [], ◌∷◌, ◌++◌, map, take, length, slice_get, Option, None, Some}
use Rattle.std.specs.List.{All}
use Rattle.std.specs.Ordering.{int_eq}
use Rattle.std.proofs.lemmas.Bool.Decides.{nat_tests}
use Rattle.linear_rows.specs.Terms.{SparseRow, coefficient}
use Rattle.linear_rows.specs.Systems.{IsBelow, AllBelow}
use Rattle.annot_types.specs.System.{is_kept}
use Rattle.rules_spec.specs.Numbers.{Condition}
use Rattle.rules_spec.specs.Kinds.{Form}
use Rattle.rules_spec.specs.Carried.{condition_to}
use Rattle.rules_spec.specs.Solving.{row_of, rows_of}
use Rattle.rules_spec.specs.Capped.{cap}
use Rattle.rules_spec.specs.Sure.{IsSure, AreSure}
use Rattle.rules_spec.specs.CappedRows.{capped_condition, capped_totals, row_fits, within, RowsAgree}
use Rattle.constraint_gen.specs.Sums.{Sum, form_of}
use Rattle.constraint_gen.specs.Heard.{Heard, pair, hear_all}
use Rattle.constraint_gen.specs.Finished.{AreBelow, FirstNone, AllThere, Finished, present}
use Rattle.constraint_gen.specs.Cause.{LeavesFirst}
use Rattle.rules_spec.proofs.CappingRows.{terms_from, cap_plus}

-- rows that are all there
pub present_all : (rows : List (Option SparseRow)) → AllThere rows → map Some (present rows) ≡ rows
present_all [] h = refl
present_all (None ∷ rows) h = absurd (let at = h 0 (omega arith) in let no : Some None ≡ Some (Some at.0) = at.1 in cc)
present_all (Some row ∷ rows) h = ap (λ l. Some row ∷ l) (present_all rows (λ k b. h (suc k) (omega (arith, b))))

pub present_more : (xs : List (Option SparseRow)) (x : Option SparseRow) → present xs ++ present (x ∷ []) ≡ present (xs ++ x ∷ [])
present_more [] x = refl
present_more (None ∷ xs) x = present_more xs x
present_more (Some row ∷ xs) x = ap (λ l. row ∷ l) (present_more xs x)

pub below_all : (n : ℕ) (all : List SparseRow) (rows : List (Option SparseRow)) → map Some all ≡ rows → AreBelow n rows → AllBelow n all
below_all n [] rows e h = tt
below_all n (r ∷ all) rows e h =
    (h 0 r (ap (λ l. slice_get l 0) (sym e)), below_all n all (map Some all) refl (λ k row there. h (suc k) row (ap (λ l. slice_get l (suc k)) (sym e) ∙ there)))

pub first_more : (rows : List (Option SparseRow)) (p : ℕ) (o : Option SparseRow) → ((k : ℕ) → k < p → (row : SparseRow) × (slice_get rows k ≡ Some (Some row))) → slice_get rows p ≡ Some o → is_none o ≡ false →
    (k : ℕ) → k < p + 1 → (row : SparseRow) × (slice_get rows k ≡ Some (Some row))
first_more rows p o h there is k b = by (split k b) (one o there is) where
  split : (k : ℕ) → k < p + 1 → (k < p) ⊎ (k ≡ p)
  split k b = grind (arith, b)

  one : (o : Option SparseRow) → slice_get rows p ≡ Some o → is_none o ≡ false → (row : SparseRow) × (slice_get rows p ≡ Some (Some row))
  one None there is = absurd (cc)
  one (Some row) there is = (row, there)

  by : (k < p) ⊎ (k ≡ p) → (row : SparseRow) × (slice_get rows p ≡ Some (Some row)) → (row : SparseRow) × (slice_get rows k ≡ Some (Some row))
  by (inl low) at = h k low
  by (inr e) at = (at.0, ap (slice_get rows) e ∙ at.1)

-- Fronts of lists

take_few : {X : Type 0} (m : ℕ) (xs : List X) → length xs ≤ m → take m xs ≡ xs
take_few zero [] h = refl
take_few (suc m) [] h = refl
take_few zero (x ∷ xs) h = absurd (omega (arith, h))
take_few (suc m) (x ∷ xs) h = ap (λ l. x ∷ l) (take_few m xs (omega (arith, h)))

take_front : {X : Type 0} (m : ℕ) (xs ys : List X) → length xs ≡ m → take m (xs ++ ys) ≡ xs
take_front zero [] ys h = refl
take_front (suc m) [] ys h = absurd (omega (arith, h))
take_front zero (x ∷ xs) ys h = absurd (omega (arith, h))
take_front (suc m) (x ∷ xs) ys h = ap (λ l. x ∷ l) (take_front m xs ys (omega (arith, h)))

take_short : {X : Type 0} (m : ℕ) (xs : List X) → length (take m xs) < m → take m xs ≡ xs
take_short zero xs h = absurd (omega (arith, h))
take_short (suc m) [] h = refl
take_short (suc m) (x ∷ xs) h = ap (λ l. x ∷ l) (take_short m xs (omega (arith, h)))

take_length : {X : Type 0} (m : ℕ) (xs : List X) → length (take m xs) ≤ length xs
take_length zero xs = omega arith
take_length (suc m) [] = omega arith
take_length (suc m) (x ∷ xs) = omega (arith, take_length m xs)

length_more : {X : Type 0} (xs : List X) (x : X) → length (xs ++ x ∷ []) ≡ length xs + 1
length_more [] x = refl
length_more (y ∷ xs) x = omega (arith, length_more xs x)

-- what was heard is the front of the rows of the conditions by what is added and what is subtracted
abbrev heard_so : ℕ → List (Option SparseRow) → Heard
heard_so n rows = record { unknowns = n; rows = rows }

abbrev pub pairs : List (Condition Sum) → List (Condition Form)
pairs ds = map (λ (d : Condition Sum). pair d.left d.right) ds

pub collected : (n : ℕ) (ds : List (Condition Sum)) (rows : List (Option SparseRow)) → length rows ≤ 2001 → (hear_all (heard_so n rows) ds).rows ≡ take 2001 (rows ++ map within (rows_of n (pairs ds)))
collected n [] rows low = sym (ap (take 2001) (append-nil rows) ∙ take_few 2001 rows low)
collected n (d ∷ ds) rows low = at (nat_lt (length rows) 2001) refl (is_kept row) (λ rows low. collected n ds rows low) where
  row : SparseRow
  row = row_of n (pair d.left d.right)

  at : (b : Bool) → nat_lt (length rows) 2001 ≡ b → (q : Bool) → ((rows : List (Option SparseRow)) → length rows ≤ 2001 → (hear_all (heard_so n rows) ds).rows ≡ take 2001 (rows ++ map within (rows_of n (pairs ds)))) →
      (hear_all (cond (b && q) (heard_so n (rows ++ within row ∷ [])) (heard_so n rows)) ds).rows ≡ take 2001 (rows ++ map within (cond q (row ∷ rows_of n (pairs ds)) (rows_of n (pairs ds))))
  at true x true go =
      let room : length rows < 2001 = grind (arith, nat_tests, x) in
      go (rows ++ within row ∷ []) (omega (arith, room, length_more rows (within row))) ∙ ap (take 2001) (append_assoc rows (within row ∷ []) (map within (rows_of n (pairs ds))))
  at false x true go =
      let full : length rows ≡ 2001 = grind (arith, nat_tests, x, low) in
      go rows low ∙ take_front 2001 rows (map within (rows_of n (pairs ds))) full ∙ sym (take_front 2001 rows (map within (row ∷ rows_of n (pairs ds))) full)
  at true x false go = go rows low
  at false x false go = go rows low

-- the row of two sums whose numbers are those of a condition, capped
row_is_capped : (n : ℕ) (d : Condition Sum) (c : Condition Form) → condition_to form_of d ≡ capped_condition c → row_of n (pair d.left d.right) ≡ row_of n (capped_totals c)
row_is_capped n d c e =
    let l = ap (λ (x : Condition Form). x.left) e in
    let r = ap (λ (x : Condition Form). x.right) e in
    let held : cap (d.left.plus + d.right.minus) ≡ cap (c.left.plus + c.right.minus) = (λ i. cap ((l i).plus + (r i).minus)) ∙ sym (cap_plus c.left.plus c.right.minus) in
    let asked : cap (d.right.plus + d.left.minus) ≡ cap (c.right.plus + c.left.minus) = (λ i. cap ((r i).plus + (l i).minus)) ∙ sym (cap_plus c.right.plus c.left.minus) in
    λ i. row_of n (record {
      path = [];
      index = 0;
      left = record { terms = (l i).terms; plus = held i; minus = 0 };
      right = record { terms = (r i).terms; plus = asked i; minus = 0 };
    })

-- and where these are sure, the exact rows
pub exact_rows : ((n : ℕ) (c : Condition Form) → IsSure c → RowsAgree n (capped_totals c) c) → (n : ℕ) (cs : List (Condition Form)) (ds : List (Condition Sum)) →
    map (condition_to form_of) ds ≡ map capped_condition cs → AreSure cs → map within (rows_of n (pairs ds)) ≡ map within (rows_of n cs)
exact_rows agree n [] [] e s = refl
exact_rows agree n [] (d ∷ ds) e s = absurd (cc)
exact_rows agree n (c ∷ cs) [] e s = absurd (cc)
exact_rows agree n (c ∷ cs) (d ∷ ds) e s =
    let head : condition_to form_of d ≡ capped_condition c = cc in
    let tail : map (condition_to form_of) ds ≡ map capped_condition cs = cc in
    let a = agree n c s.0 in
    let same = row_is_capped n d c head in
    by (is_kept (row_of n (pair d.left d.right))) (ap is_kept same ∙ a.kept) (ap within same ∙ a.within) (exact_rows agree n cs ds tail s.1) where
      by : (b : Bool) → b ≡ is_kept (row_of n c) → within (row_of n (pair d.left d.right)) ≡ within (row_of n c) → map within (rows_of n (pairs ds)) ≡ map within (rows_of n cs) →
          map within (cond b (row_of n (pair d.left d.right) ∷ rows_of n (pairs ds)) (rows_of n (pairs ds))) ≡ map within (cond (is_kept (row_of n c)) (row_of n c ∷ rows_of n cs) (rows_of n cs))
      by true same row rest = (λ i. row i ∷ rest i) ∙ ap (λ b. map within (cond b (row_of n c ∷ rows_of n cs) (rows_of n cs))) same
      by false same row rest = rest ∙ ap (λ b. map within (cond b (row_of n c ∷ rows_of n cs) (rows_of n cs))) same

-- all rows are there
all_within : (made rows : List SparseRow) → map Some made ≡ map within rows → (made ≡ rows) × All (λ row. row_fits row ≡ true) made
all_within [] [] e = (refl, λ k d b. absurd (omega (arith, b)))
all_within [] (r ∷ rows) e = absurd (cc)
all_within (m ∷ made) [] e = absurd (cc)
all_within (m ∷ made) (r ∷ rows) e =
    let head : Some m ≡ within r = cc in
    let tail : map Some made ≡ map within rows = cc in
    by (all_within made rows tail) (row_fits r) refl head where
      by : (made ≡ rows) × All (λ row. row_fits row ≡ true) made → (b : Bool) → row_fits r ≡ b → Some m ≡ cond b (Some r) None → (m ∷ made ≡ r ∷ rows) × All (λ row. row_fits row ≡ true) (m ∷ made)
      by go true f e = let same : m ≡ r = cc in (λ i. same i ∷ go.0 i, at same) where
        at : m ≡ r → (k : ℕ) (d : SparseRow) → k < length (m ∷ made) → row_fits (slice_index_or (m ∷ made) k d) ≡ true
        at same zero d b = ap row_fits same ∙ f
        at same (suc k) d b = go.1 k d (omega (arith, b))
      by go false f e = absurd (cc)

pub finished_is : (rows : List SparseRow) (v : List (Option SparseRow)) (made : List SparseRow) → v ≡ take 2001 (map within rows) → Finished v made → (made ≡ rows) × (length made ≤ 2000) × All (λ row. row_fits row ≡ true) made
finished_is rows v made e h =
    let short : length (take 2001 (map within rows)) < 2001 = omega (arith, ap length e, h.few) in
    let whole = e ∙ take_short 2001 (map within rows) short in
    let all = all_within made rows (h.same ∙ whole) in
    (all.0, omega (arith, ap length h.same, length-map made Some, h.few), all.1)

pub large_is : (rows : List SparseRow) (v : List (Option SparseRow)) → v ≡ take 2001 (map within rows) → 2000 < length v → 2000 < length rows
large_is rows v e h = omega (arith, ap length e, take_length 2001 (map within rows), length-map rows within, h)

-- a row leaves
leaving_at : (rows : List SparseRow) (k : ℕ) → slice_get (map within rows) k ≡ Some None → (row : SparseRow) × (slice_get rows k ≡ Some row) × (row_fits row ≡ true → ⊥)
leaving_at [] k e = absurd (cc)
leaving_at (r ∷ rows) (suc k) e = leaving_at rows k e
leaving_at (r ∷ rows) zero e = (r, refl, λ f. by (ap (λ b. cond b (Some r) None) (sym f)) e) where
  by : Some r ≡ within r → Some (within r) ≡ Some None → ⊥
  by s e = let no : Some (Some r) ≡ Some None = ap Some s ∙ e in cc

fitting_at : (rows : List SparseRow) (k : ℕ) (row other : SparseRow) → slice_get (map within rows) k ≡ Some (Some row) → slice_get rows k ≡ Some other → row_fits other ≡ true
fitting_at [] k row other e h = absurd (cc)
fitting_at (r ∷ rows) (suc k) row other e h = fitting_at rows k row other e h
fitting_at (r ∷ rows) zero row other e h = by (row_fits r) refl e (some_is r other h) where
  some_is : (x y : SparseRow) → Some x ≡ Some y → x ≡ y
  some_is x y e = cc

  by : (b : Bool) → row_fits r ≡ b → Some (cond b (Some r) None) ≡ Some (Some row) → r ≡ other → row_fits other ≡ true
  by true f e same = ap row_fits (sym same) ∙ f
  by false f e same = absurd (cc)

pub leaves_is : (rows : List SparseRow) (v : List (Option SparseRow)) (place : ℕ) → v ≡ take 2001 (map within rows) → length v ≤ 2000 → FirstNone v place → (length rows ≤ 2000) × LeavesFirst rows place
leaves_is rows v place e low h =
    let short : length (take 2001 (map within rows)) < 2001 = omega (arith, ap length e, low) in
    let whole = e ∙ take_short 2001 (map within rows) short in
    let at = leaving_at rows place (ap (λ l. slice_get l place) (sym whole) ∙ h.there) in (
      omega (arith, ap length whole, length-map rows within, low),
      record {
        row = at.0;
        there = at.1;
        leaves = at.2;
        first = λ k other b there. let f = h.first k b in fitting_at rows k f.0 other (ap (λ l. slice_get l k) (sym whole) ∙ f.1) there;
      },
    )

-- the rows speak of the unknowns alone
behind_none : (n k u : ℕ) (f : ℕ → ℤ) → k + n ≤ u → coefficient u (terms_from k n f) ≡ pos 0
unfolding terms_from
behind_none zero k u f h = refl
behind_none (suc n) k u f h = by (behind_none n (k + 1) u f (omega (arith, h))) (int_eq (f k) (pos 0)) where
  by : coefficient u (terms_from (k + 1) n f) ≡ pos 0 → (b : Bool) → coefficient u (cond (not b) ((k, f k) ∷ terms_from (k + 1) n f) (terms_from (k + 1) n f)) ≡ pos 0
  by go true = go
  by go false = let other : (k == u) ≡ false = grind (arith, nat_tests, h) in ap (λ b. if b then f k else coefficient u (terms_from (k + 1) n f)) other ∙ go

row_below : (n : ℕ) (c : Condition Form) → IsBelow n (row_of n c)
unfolding terms_from
row_below n c u h = behind_none n 0 u (λ u. pos (c.left.terms u) -ℤ pos (c.right.terms u)) (omega (arith, h))

each_row_below : (n : ℕ) (cs : List (Condition Form)) (k : ℕ) (row : SparseRow) → slice_get (map within (rows_of n cs)) k ≡ Some (Some row) → IsBelow n row
each_row_below n [] k row e = absurd (cc)
each_row_below n (c ∷ cs) k row e = by (is_kept (row_of n c)) (each_row_below n cs) k e where
  inside : (b : Bool) → Some (cond b (Some (row_of n c)) None) ≡ Some (Some row) → row_of n c ≡ row
  inside true e = cc
  inside false e = absurd (cc)

  by : (b : Bool) → ((k : ℕ) (row : SparseRow) → slice_get (map within (rows_of n cs)) k ≡ Some (Some row) → IsBelow n row) → (k : ℕ) → slice_get (map within (cond b (row_of n c ∷ rows_of n cs) (rows_of n cs))) k ≡ Some (Some row) → IsBelow n row
  by false go k e = go k row e
  by true go zero e = subst (IsBelow n) (inside (row_fits (row_of n c)) e) (row_below n c)
  by true go (suc k) e = go k row e

get_front : {X : Type 0} (m : ℕ) (xs : List X) (k : ℕ) (x : X) → slice_get (take m xs) k ≡ Some x → slice_get xs k ≡ Some x
get_front zero xs k x e = absurd (cc)
get_front (suc m) [] k x e = absurd (cc)
get_front (suc m) (y ∷ xs) zero x e = e
get_front (suc m) (y ∷ xs) (suc k) x e = get_front m xs k x e

pub told_below : (n : ℕ) (cs : List (Condition Form)) (v : List (Option SparseRow)) → v ≡ take 2001 (map within (rows_of n cs)) → AreBelow n v
told_below n cs v e k row there = each_row_below n cs k row (get_front 2001 (map within (rows_of n cs)) k (Some row) (ap (λ l. slice_get l k) (sym e) ∙ there))
