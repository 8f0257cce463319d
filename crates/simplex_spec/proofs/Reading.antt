-- What an end of a course tells of the system.
use Rattle.std.proofs.Common.{◌≡◌, refl, sym, ap, ◌∙◌, ℕ, zero, suc, ◌+◌, ◌<◌, ℤ, pos, neg_ℤ, ◌+ℤ◌, ◌*ℤ◌, ◌≤ℤ◌, ◌<ℤ◌, arith, List, [], ◌∷◌, ◌++◌, length, map, ◌⊎◌, inl, inr}
use Rattle.std.proofs.lemmas.List.{length-map}
use Rattle.std.proofs.lemmas.Int.{ints}
use lib.IntN.{*ℤ_comm}
use Rattle.raml_num.specs.Sums.{NoneNegative}
use Rattle.raml_num.proofs.Differences.{diffs, is_diff, diff_same}
use Rattle.raml_num.proofs.Signed.{none_mul}
use Rattle.linear_rows.specs.Terms.{SparseRow, coefficient}
use Rattle.linear_rows.specs.Systems.{LinearSystem, IsSystem, Refutes, numbers_from, matrix, right_sides, ProvesLeast}
use Rattle.linear_rows.specs.Vectors.{dot, scale, plus, zeros, mix, times, AtMost}
use Rattle.linear_rows.proofs.Products.{dot-plus, dot-zeros, dot-comm, length-zeros, length-plus, length-mix, length-scale}
use Rattle.linear_rows.proofs.Duality.{all_wide}
use Rattle.simplex_spec.specs.Places.{at, row_at, at_each, column, counted, only, spread}
use Rattle.simplex_spec.specs.Tableaux.{Tableau, right, slacks, opening_row, solution, dual, ray}
use Rattle.simplex_spec.proofs.Rows.{at-mix, at-scale, at-column, length-at_each, length-column, at-zeros, wide_at}
use Rattle.simplex_spec.proofs.Opening.{width, opened, values, coefficients, at-front, at-back, length-counted, length-only, dot-only, at_right, value_at_slack, wide_opened, length-opened, column-mapped, natural_at, one_of}
use Rattle.simplex_spec.proofs.Invariant.{LexPositive}
use Rattle.simplex_spec.proofs.Ending.{Good}

-- numbers at places, 0 elsewhere
pub length-spread : (n : ℕ) (cs : List ℕ) (zs : List ℤ) → length (spread n cs zs) ≡ n
length-spread n [] zs = length-zeros n
length-spread n (c ∷ cs) [] = length-zeros n
length-spread n (c ∷ cs) (z ∷ zs) = length-plus (only n c z) (spread n cs zs) (length-only n c z ∙ sym (length-spread n cs zs)) ∙ length-only n c z

dot-spread : (n : ℕ) (c : ℕ) (cs : List ℕ) (z : ℤ) (zs xs : List ℤ) → length xs ≡ n → dot (spread n (c ∷ cs) (z ∷ zs)) xs ≡ z *ℤ at xs c +ℤ dot (spread n cs zs) xs
dot-spread n c cs z zs xs e =
    dot-plus (only n c z) (spread n cs zs) xs (length-only n c z ∙ sym (length-spread n cs zs)) ∙ rw (dot-only n c z xs e) refl

-- lists in which no number is negative
natural-zeros : (n : ℕ) → NoneNegative (zeros n)
natural-zeros zero = tt
natural-zeros (suc n) = (omega (arith, ints), natural-zeros n)

natural-only : (n i : ℕ) (z : ℤ) → pos 0 ≤ℤ z → NoneNegative (only n i z)
natural-only zero i z h = tt
natural-only (suc n) zero z h = (h, natural-zeros n)
natural-only (suc n) (suc i) z h = (omega (arith, ints), natural-only n i z h)

natural-plus : (xs ys : List ℤ) → NoneNegative xs → NoneNegative ys → NoneNegative (plus xs ys)
natural-plus [] ys h k = tt
natural-plus (x ∷ xs) [] h k = tt
natural-plus (x ∷ xs) (y ∷ ys) h k = (let a = h.0 in let b = k.0 in omega (arith, ints), natural-plus xs ys h.1 k.1)

natural-spread : (n : ℕ) (cs : List ℕ) (zs : List ℤ) → NoneNegative zs → NoneNegative (spread n cs zs)
natural-spread n [] zs h = natural-zeros n
natural-spread n (c ∷ cs) [] h = natural-zeros n
natural-spread n (c ∷ cs) (z ∷ zs) h = natural-plus (only n c z) (spread n cs zs) (natural-only n c z h.0) (natural-spread n cs zs h.1)

natural-append : (xs ys : List ℤ) → NoneNegative xs → NoneNegative ys → NoneNegative (xs ++ ys)
natural-append [] ys h k = k
natural-append (x ∷ xs) ys h k = (h.0, natural-append xs ys h.1 k)

-- a place is in the front or in the back
front_or_back : (c n : ℕ) → (c < n) ⊎ ((i : ℕ) × (c ≡ n + i))
front_or_back c zero = inr (c, omega arith)
front_or_back zero (suc n) = inl (omega arith)
front_or_back (suc c) (suc n) = elim (front_or_back c n) [ inl h ↦ inl (omega arith) | inr h ↦ inr (h.0, let e = h.1 in omega arith) ]

past : (xs : List ℤ) (c i : ℕ) → c ≡ length xs + i → at xs c ≡ pos 0
past [] c i e = refl
past (x ∷ xs) zero i e = absurd (omega arith)
past (x ∷ xs) (suc c) i e = past xs c i (omega arith)

-- what the numbers zs at the columns cs give with xs ++ ys, they give with xs where they are spread; with
-- a back that is not negative it is no less
step : (z a r m : ℤ) → pos 0 ≤ℤ z → pos 0 ≤ℤ a → r ≤ℤ m → (z *ℤ pos 0 +ℤ r) ≤ℤ (a *ℤ z +ℤ m)
step z a r m h k q =
    let p : pos 0 ≤ℤ (a *ℤ z) = none_mul a z k h in
    omega (arith, ints)

same_step : (z a r m : ℤ) → r ≤ℤ m → (z *ℤ a +ℤ r) ≤ℤ (a *ℤ z +ℤ m)
same_step z a r m q = let e : z *ℤ a ≡ a *ℤ z = *ℤ_comm z a in omega (arith, ints)

pub spread_below : (n : ℕ) (xs ys : List ℤ) (cs : List ℕ) (zs : List ℤ) → length xs ≡ n → NoneNegative ys → NoneNegative zs → dot (spread n cs zs) xs ≤ℤ dot (at_each (xs ++ ys) cs) zs
spread_below n xs ys [] zs e h k = rw (dot-zeros n xs) (omega (arith, ints))
spread_below n xs ys (c ∷ cs) [] e h k = rw (dot-zeros n xs) (omega (arith, ints))
spread_below n xs ys (c ∷ cs) (z ∷ zs) e h k =
    let r : dot (spread n cs zs) xs ≤ℤ dot (at_each (xs ++ ys) cs) zs = spread_below n xs ys cs zs e h k.1 in
    rw (dot-spread n c cs z zs xs e) (elim (front_or_back c (length xs)) [
      | inl f ↦ rw (at-front xs ys c f) (same_step z (at xs c) _ _ r)
      | inr b ↦ rw (past xs c b.0 b.1, at-back xs ys c b.0 b.1) (step z (at ys b.0) _ _ k.0 (natural_at ys b.0 h) r)
    ])

-- with a back of zeros it is the same
zero_step : (z a r m : ℤ) → a ≡ pos 0 → r ≡ m → z *ℤ pos 0 +ℤ r ≡ a *ℤ z +ℤ m
zero_step z a r m e q = rw (e, q) (omega (arith, ints))

even_step : (z a r m : ℤ) → r ≡ m → z *ℤ a +ℤ r ≡ a *ℤ z +ℤ m
even_step z a r m q = let e : z *ℤ a ≡ a *ℤ z = *ℤ_comm z a in omega (arith, ints)

pub spread_same : (n : ℕ) (xs ys : List ℤ) (cs : List ℕ) (zs : List ℤ) → length xs ≡ n → ((i : ℕ) → at ys i ≡ pos 0) → dot (spread n cs zs) xs ≡ dot (at_each (xs ++ ys) cs) zs
spread_same n xs ys [] zs e h = dot-zeros n xs
spread_same n xs ys (c ∷ cs) [] e h = dot-zeros n xs
spread_same n xs ys (c ∷ cs) (z ∷ zs) e h =
    let r : dot (spread n cs zs) xs ≡ dot (at_each (xs ++ ys) cs) zs = spread_same n xs ys cs zs e h in
    rw (dot-spread n c cs z zs xs e) (elim (front_or_back c (length xs)) [
      | inl f ↦ rw (at-front xs ys c f) (even_step z (at xs c) _ _ r)
      | inr b ↦ rw (past xs c b.0 b.1, at-back xs ys c b.0 b.1) (zero_step z (at ys b.0) _ _ (h b.0) r)
    ])

-- lists that are read place by place
same_each : (v w : List ℤ) (cs : List ℕ) → ((c : ℕ) → at v c ≡ at w c) → at_each v cs ≡ at_each w cs
same_each v w [] h = refl
same_each v w (c ∷ cs) h = rw (h c, same_each v w cs h) refl

same_lists : (xs ys : List ℤ) → length xs ≡ length ys → ((i : ℕ) → i < length xs → at xs i ≡ at ys i) → xs ≡ ys
same_lists [] [] e h = refl
same_lists [] (y ∷ ys) e h = absurd (omega arith)
same_lists (x ∷ xs) [] e h = absurd (omega arith)
same_lists (x ∷ xs) (y ∷ ys) e h =
    let first : x ≡ y = h 0 (omega arith) in
    let rest : xs ≡ ys = same_lists xs ys (omega arith) (λ i q. h (suc i) (omega arith)) in
    rw (first, rest) refl

at_most : (xs ys : List ℤ) → length xs ≡ length ys → ((i : ℕ) → i < length xs → at xs i ≤ℤ at ys i) → AtMost xs ys
at_most [] [] e h = tt
at_most [] (y ∷ ys) e h = absurd (omega arith)
at_most (x ∷ xs) [] e h = absurd (omega arith)
at_most (x ∷ xs) (y ∷ ys) e h = (h 0 (omega arith), at_most xs ys (omega arith) (λ i q. h (suc i) (omega arith)))

-- negatives
neg_step : (x y m : ℤ) → x *ℤ neg_ℤ y +ℤ neg_ℤ m ≡ neg_ℤ (x *ℤ y +ℤ m)
neg_step x y m = rw (is_diff x, is_diff y, is_diff m) (simp diffs (diff_same _ _ _ _ (omega arith)))

dot-neg : (xs ys : List ℤ) → dot xs (map neg_ℤ ys) ≡ neg_ℤ (dot xs ys)
dot-neg [] ys = refl
dot-neg (x ∷ xs) [] = refl
dot-neg (x ∷ xs) (y ∷ ys) = rw (dot-neg xs ys) (neg_step x y (dot xs ys))

natural-neg : (xs : List ℤ) → ((i : ℕ) → i < length xs → at xs i ≤ℤ pos 0) → NoneNegative (map neg_ℤ xs)
natural-neg [] h = tt
natural-neg (x ∷ xs) h = (let q : x ≤ℤ pos 0 = h 0 (omega arith) in omega (arith, ints), natural-neg xs (λ i q. h (suc i) (omega arith)))

natural-each : (xs : List ℤ) → ((i : ℕ) → i < length xs → pos 0 ≤ℤ at xs i) → NoneNegative xs
natural-each [] h = tt
natural-each (x ∷ xs) h = (h 0 (omega arith), natural-each xs (λ i q. h (suc i) (omega arith)))

-- the matrix of a system, by columns
at-numbers : (k n i : ℕ) (row : SparseRow) → i < n → at (numbers_from k n row.terms) i ≡ coefficient (k + i) row.terms
at-numbers k zero i row h = absurd (omega arith)
at-numbers k (suc n) zero row h = ap (λ (j : ℕ). coefficient j row.terms) (let e : k ≡ k + 0 = omega arith in e)
at-numbers k (suc n) (suc i) row h = at-numbers (suc k) n i row (omega arith) ∙ ap (λ (j : ℕ). coefficient j row.terms) (let e : suc k + i ≡ k + suc i = omega arith in e)

column-rows : (n i : ℕ) (rows : List SparseRow) → i < n → column i (map (λ row. numbers_from 0 n row.terms) rows) ≡ map (λ row. coefficient i row.terms) rows
column-rows n i [] h = refl
column-rows n i (row ∷ rows) h =
    let e : at (numbers_from 0 n row.terms) i ≡ coefficient i row.terms = at-numbers 0 n i row h ∙ ap (λ (j : ℕ). coefficient j row.terms) (let z : 0 + i ≡ i = omega arith in z) in
    rw (e, column-rows n i rows h) refl

at-times : (rows : List (List ℤ)) (x : List ℤ) (j : ℕ) → j < length rows → at (times rows x) j ≡ dot (row_at rows j) x
at-times [] x j h = absurd (omega arith)
at-times (row ∷ rows) x zero h = refl
at-times (row ∷ rows) x (suc j) h = at-times rows x j (omega arith)

length-times : (rows : List (List ℤ)) (x : List ℤ) → length (times rows x) ≡ length rows
length-times [] x = refl
length-times (row ∷ rows) x = omega (arith, length-times rows x)

module _ (s : LinearSystem) (h : IsSystem s) (t : Tableau) (g : Good s t) where
  -- an opening row is told by its numbers at the basis
  row_spans : (i c : ℕ) → i < s.unknowns → t.over *ℤ at (opening_row s i) c ≡ dot (at_each (opening_row s i) t.basis) (column c t.rows)
  row_spans i c q =
      let k : List ℤ = only s.unknowns i (pos 1) in
      let is : (j : ℕ) → at (mix (width s) k (opened s)) j ≡ at (opening_row s i) j = λ j.
      at-mix (width s) j k (opened s) (wide_opened s) ∙ dot-only s.unknowns i (pos 1) (column j (opened s)) (length-column j (opened s) ∙ length-opened s) ∙ one_of _
      ∙ column-mapped j (opening_row s) 0 s.unknowns i q ∙ ap (λ (m : ℕ). at (opening_row s m) j) (let z : 0 + i ≡ i = omega arith in z) in
      ap (λ (z : ℤ). t.over *ℤ z) (sym (is c)) ∙ g.sound.spans k c (length-only s.unknowns i (pos 1) ∙ sym (length-opened s))
      ∙ ap (λ (xs : List ℤ). dot xs (column c t.rows)) (same_each (mix (width s) k (opened s)) (opening_row s i) t.basis is)

  natural_back : (i : ℕ) → NoneNegative (only s.unknowns i (pos 1) ++ at s.weights i ∷ [])
  natural_back i = natural-append (only s.unknowns i (pos 1)) (at s.weights i ∷ []) (natural-only s.unknowns i (pos 1) (omega (arith, ints))) (natural_at s.weights i h.natural, tt)

  length-coefficients : (i : ℕ) → length (coefficients s i) ≡ length s.rows
  length-coefficients i = length-map s.rows (λ (row : SparseRow). coefficient i row.terms)

  -- what a vector gives at an unknown
  at-vector : (y : List ℤ) (i : ℕ) → i < s.unknowns → at (mix s.unknowns y (matrix s)) i ≡ dot y (coefficients s i)
  at-vector y i q = at-mix s.unknowns i y (matrix s) (all_wide s.unknowns s.rows) ∙ ap (dot y) (column-rows s.unknowns i s.rows q)

  length-vector : (y : List ℤ) → length (mix s.unknowns y (matrix s)) ≡ s.unknowns
  length-vector y = length-mix s.unknowns y (matrix s) (all_wide s.unknowns s.rows)

  -- the values at and past the slacks are 0
  back_is_zero : (i : ℕ) → at (zeros s.unknowns ++ pos 0 ∷ []) i ≡ pos 0
  back_is_zero i = sym (at-back (right_sides s) (zeros s.unknowns ++ pos 0 ∷ []) (length s.rows + i) i (let l = length-map s.rows (λ (row : SparseRow). row.right) in omega arith)) ∙ value_at_slack s i

  no_right : at (values s) (right s) ≡ pos 0
  no_right = value_at_slack s s.unknowns

  -- the columns of the opening tableau
  column_right : column (right s) (opened s) ≡ s.weights
  column_right = same_lists _ _ (length-column (right s) (opened s) ∙ length-opened s ∙ sym h.one_each) (λ i q.
      let i' : i < s.unknowns = (let a = length-column (right s) (opened s) in let b = length-opened s in omega arith) in
      column-mapped (right s) (opening_row s) 0 s.unknowns i i' ∙ ap (λ (m : ℕ). at (opening_row s m) (right s)) (let z : 0 + i ≡ i = omega arith in z) ∙ at_right s i)

  length-matrix : length (matrix s) ≡ length s.rows
  length-matrix = length-map s.rows (λ (row : SparseRow). numbers_from 0 s.unknowns row.terms)

  column_row : (j : ℕ) → j < length s.rows → column j (opened s) ≡ row_at (matrix s) j
  column_row j q = same_lists _ _ (length-column j (opened s) ∙ length-opened s ∙ sym (wide_at s.unknowns j (matrix s) (all_wide s.unknowns s.rows) (let m = length-matrix in omega arith))) (λ i p.
      let i' : i < s.unknowns = (let a = length-column j (opened s) in let b = length-opened s in omega arith) in
      let l = length-coefficients i in
      column-mapped j (opening_row s) 0 s.unknowns i i' ∙ ap (λ (m : ℕ). at (opening_row s m) j) (let z : 0 + i ≡ i = omega arith in z)
      ∙ at-front (coefficients s i) _ j (omega arith) ∙ ap (λ (xs : List ℤ). at xs j) (sym (column-rows s.unknowns i s.rows i')) ∙ at-column i j (matrix s))

  -- the right sides of a good tableau
  right_natural : NoneNegative (column (right s) t.rows)
  right_natural = natural-each (column (right s) t.rows) (λ i q.
      let i' : i < length t.rows = (let a = length-column (right s) t.rows in omega arith) in
      rw (at-column (right s) i t.rows) (first _ _ (g.positive.each i i')))
    where
      first : (x : ℤ) (xs : List ℤ) → (pos 0 <ℤ x) ⊎ ((x ≡ pos 0) × LexPositive xs) → pos 0 ≤ℤ x
      first x xs (inl p) = omega (arith, ints)
      first x xs (inr p) = let e = p.0 in omega (arith, ints)

  pub dual_columns : AtMost (mix s.unknowns (dual s t) (matrix s)) (scale t.over s.weights)
  dual_columns = at_most _ _ (length-vector (dual s t) ∙ sym (length-scale t.over s.weights ∙ h.one_each)) (λ i q.
      let i' : i < s.unknowns = (let a = length-vector (dual s t) in omega arith) in
      let a = at-vector (dual s t) i i' in
      let b : at (scale t.over s.weights) i ≡ t.over *ℤ at s.weights i = at-scale t.over s.weights i in
      let d : t.over *ℤ at (opening_row s i) (right s) ≡ dot (at_each (opening_row s i) t.basis) (column (right s) t.rows) = row_spans i (right s) i' in
      let e : t.over *ℤ at (opening_row s i) (right s) ≡ t.over *ℤ at s.weights i = ap (λ (z : ℤ). t.over *ℤ z) (at_right s i) in
      let f : dot (dual s t) (coefficients s i) ≤ℤ dot (at_each (opening_row s i) t.basis) (column (right s) t.rows) =
      spread_below (length s.rows) (coefficients s i) (only s.unknowns i (pos 1) ++ at s.weights i ∷ []) t.basis (column (right s) t.rows) (length-coefficients i) (natural_back i) right_natural in
      omega (arith, ints))

  pub equal_sums : dot (dual s t) (right_sides s) ≡ dot s.weights (solution s t)
  equal_sums =
      let v : t.over *ℤ at (values s) (right s) ≡ at t.gains (right s) +ℤ dot (at_each (values s) t.basis) (column (right s) t.rows) = g.sound.valued (right s) in
      let w : at t.gains (right s) ≡ t.over *ℤ at (values s) (right s) +ℤ dot (at_each t.gains (slacks s)) (column (right s) (opened s)) = g.sound.gained (right s) in
      let z : t.over *ℤ at (values s) (right s) ≡ t.over *ℤ pos 0 = ap (λ (z : ℤ). t.over *ℤ z) no_right in
      let zero : t.over *ℤ pos 0 ≡ pos 0 = omega (arith, ints) in
      let y : dot (dual s t) (right_sides s) ≡ dot (at_each (values s) t.basis) (column (right s) t.rows) =
      spread_same (length s.rows) (right_sides s) (zeros s.unknowns ++ pos 0 ∷ []) t.basis (column (right s) t.rows) (length-map s.rows (λ (row : SparseRow). row.right)) back_is_zero in
      let x : dot s.weights (solution s t) ≡ neg_ℤ (dot s.weights (at_each t.gains (slacks s))) = dot-neg s.weights (at_each t.gains (slacks s)) in
      let c : dot (at_each t.gains (slacks s)) (column (right s) (opened s)) ≡ dot s.weights (at_each t.gains (slacks s)) = ap (dot (at_each t.gains (slacks s))) column_right ∙ dot-comm (at_each t.gains (slacks s)) s.weights in
      omega (arith, ints)

  module _ (none : (c : ℕ) → c < right s → at t.gains c ≤ℤ pos 0) where
    at-slacks : (i : ℕ) → i < s.unknowns → at (at_each t.gains (slacks s)) i ≡ at t.gains (length s.rows + i)
    at-slacks i q = each_counted t.gains (length s.rows) s.unknowns i q
      where
        each_counted : (v : List ℤ) (k n i : ℕ) → i < n → at (at_each v (counted k n)) i ≡ at v (k + i)
        each_counted v k zero i h = absurd (omega arith)
        each_counted v k (suc n) zero h = ap (at v) (let e : k ≡ k + 0 = omega arith in e)
        each_counted v k (suc n) (suc i) h = each_counted v (suc k) n i (omega arith) ∙ ap (at v) (let e : suc k + i ≡ k + suc i = omega arith in e)

    length-slacks : length (at_each t.gains (slacks s)) ≡ s.unknowns
    length-slacks = length-at_each t.gains (slacks s) ∙ length-counted (length s.rows) s.unknowns

    pub solution_natural : NoneNegative (solution s t)
    solution_natural = natural-neg (at_each t.gains (slacks s)) (λ i q.
        let i' : i < s.unknowns = (let a = length-slacks in omega arith) in
        rw (at-slacks i i') (none (length s.rows + i) (omega arith)))

    pub solution_rows : AtMost (scale t.over (right_sides s)) (times (matrix s) (solution s t))
    solution_rows = at_most _ _ (length-scale t.over (right_sides s) ∙ length-map s.rows (λ (row : SparseRow). row.right) ∙ sym (length-times (matrix s) (solution s t) ∙ length-matrix)) (λ j q.
        let l = length-scale t.over (right_sides s) in
        let l2 = length-map s.rows (λ (row : SparseRow). row.right) in
        let m = length-matrix in
        let j' : j < length s.rows = omega arith in
        let a : at (scale t.over (right_sides s)) j ≡ t.over *ℤ at (right_sides s) j = at-scale t.over (right_sides s) j in
        let b : at (times (matrix s) (solution s t)) j ≡ dot (row_at (matrix s) j) (solution s t) = at-times (matrix s) (solution s t) j (omega arith) in
        let x : dot (row_at (matrix s) j) (solution s t) ≡ neg_ℤ (dot (row_at (matrix s) j) (at_each t.gains (slacks s))) = dot-neg (row_at (matrix s) j) (at_each t.gains (slacks s)) in
        let c : dot (at_each t.gains (slacks s)) (column j (opened s)) ≡ dot (row_at (matrix s) j) (at_each t.gains (slacks s)) = ap (dot (at_each t.gains (slacks s))) (column_row j j') ∙ dot-comm (at_each t.gains (slacks s)) (row_at (matrix s) j) in
        let w : at t.gains j ≡ t.over *ℤ at (values s) j +ℤ dot (at_each t.gains (slacks s)) (column j (opened s)) = g.sound.gained j in
        let v : t.over *ℤ at (values s) j ≡ t.over *ℤ at (right_sides s) j = ap (λ (z : ℤ). t.over *ℤ z) (at-front (right_sides s) _ j (omega arith)) in
        let n : at t.gains j ≤ℤ pos 0 = none j (omega arith) in
        omega (arith, ints))

    pub proves_least : ProvesLeast s (solution s t) (dual s t) t.over
    proves_least = record {
      positive = g.sound.positive;
      solves = record { one_each = length-map (at_each t.gains (slacks s)) neg_ℤ ∙ length-slacks; natural = solution_natural; rows = solution_rows };
      dual = record { one_each = length-spread (length s.rows) t.basis (column (right s) t.rows); natural = natural-spread (length s.rows) t.basis (column (right s) t.rows) right_natural; columns = dual_columns };
      equal = equal_sums;
    }

  module _ (c : ℕ) (gain : pos 0 <ℤ at t.gains c) (none : (i : ℕ) → i < length t.rows → at (row_at t.rows i) c ≤ℤ pos 0) where
    numbers_natural : NoneNegative (t.over ∷ map neg_ℤ (column c t.rows))
    numbers_natural = (
      let q = g.sound.positive in omega (arith, ints),
      natural-neg (column c t.rows) (λ i q.
          let i' : i < length t.rows = (let a = length-column c t.rows in omega arith) in
          rw (at-column c i t.rows) (none i i')),
    )

    pub refutes : Refutes s (ray s c t)
    refutes = record {
      one_each = length-spread (length s.rows) (c ∷ t.basis) (t.over ∷ map neg_ℤ (column c t.rows));
      natural = natural-spread (length s.rows) (c ∷ t.basis) (t.over ∷ map neg_ℤ (column c t.rows)) numbers_natural;
      columns = at_most _ _ (length-vector (ray s c t) ∙ sym (length-zeros s.unknowns)) (λ i q.
          let i' : i < s.unknowns = (let a = length-vector (ray s c t) in omega arith) in
          let a = at-vector (ray s c t) i i' in
          let b = at-zeros s.unknowns i in
          let d : t.over *ℤ at (opening_row s i) c ≡ dot (at_each (opening_row s i) t.basis) (column c t.rows) = row_spans i c i' in
          let e : dot (at_each (opening_row s i) t.basis) (map neg_ℤ (column c t.rows)) ≡ neg_ℤ (dot (at_each (opening_row s i) t.basis) (column c t.rows)) = dot-neg _ (column c t.rows) in
          let m : at (opening_row s i) c *ℤ t.over ≡ t.over *ℤ at (opening_row s i) c = *ℤ_comm (at (opening_row s i) c) t.over in
          let f : dot (ray s c t) (coefficients s i) ≤ℤ (at (opening_row s i) c *ℤ t.over +ℤ dot (at_each (opening_row s i) t.basis) (map neg_ℤ (column c t.rows))) =
          spread_below (length s.rows) (coefficients s i) (only s.unknowns i (pos 1) ++ at s.weights i ∷ []) (c ∷ t.basis) (t.over ∷ map neg_ℤ (column c t.rows)) (length-coefficients i) (natural_back i) numbers_natural in
          omega (arith, ints));
      right =
          let v : t.over *ℤ at (values s) c ≡ at t.gains c +ℤ dot (at_each (values s) t.basis) (column c t.rows) = g.sound.valued c in
          let e : dot (at_each (values s) t.basis) (map neg_ℤ (column c t.rows)) ≡ neg_ℤ (dot (at_each (values s) t.basis) (column c t.rows)) = dot-neg _ (column c t.rows) in
          let m : at (values s) c *ℤ t.over ≡ t.over *ℤ at (values s) c = *ℤ_comm (at (values s) c) t.over in
          let y : dot (ray s c t) (right_sides s) ≡ at (values s) c *ℤ t.over +ℤ dot (at_each (values s) t.basis) (map neg_ℤ (column c t.rows)) =
          spread_same (length s.rows) (right_sides s) (zeros s.unknowns ++ pos 0 ∷ []) (c ∷ t.basis) (t.over ∷ map neg_ℤ (column c t.rows)) (length-map s.rows (λ (row : SparseRow). row.right)) back_is_zero in
          omega (arith, ints);
    }
