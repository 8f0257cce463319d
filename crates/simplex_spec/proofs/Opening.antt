-- The opening tableau is sound.
use Rattle.std.proofs.Common.{◌≡◌, refl, sym, ap, subst, ◌∙◌, ℕ, zero, suc, ◌+◌, ◌<◌, ◌≤◌, ◌≢◌, ℤ, pos, ◌*ℤ◌, ◌≤ℤ◌, arith, List, [], ◌∷◌, ◌++◌, length, map, inl, inr}
use Rattle.std.proofs.lemmas.List.{length-map}
use Rattle.std.proofs.lemmas.Int.{ints, by_lt_z}
use Rattle.raml_num.specs.Sums.{NoneNegative}
use lib.ListN.{length-append}
use Rattle.linear_rows.specs.Terms.{SparseRow, coefficient}
use Rattle.linear_rows.specs.Systems.{LinearSystem, right_sides}
use Rattle.linear_rows.specs.Vectors.{dot, zeros, mix, AllWide}
use Rattle.linear_rows.proofs.Products.{length-zeros, dot-zeros}
use Rattle.simplex_spec.specs.Places.{at, row_at, at_each, column, counted, only}
use Rattle.simplex_spec.specs.Tableaux.{right, slacks, opening_row, opening, compared}
use Rattle.simplex_spec.proofs.Rows.{at-zeros, at-mix, length-column}
use Rattle.simplex_spec.proofs.Invariant.{Sound, Based, basis_at, LexPositive, RowsPositive, AllBelow}

-- places of appended lists
pub at-front : (xs ys : List ℤ) (c : ℕ) → c < length xs → at (xs ++ ys) c ≡ at xs c
at-front [] ys c h = absurd (omega arith)
at-front (x ∷ xs) ys zero h = refl
at-front (x ∷ xs) ys (suc c) h = at-front xs ys c (omega arith)

pub at-back : (xs ys : List ℤ) (c i : ℕ) → c ≡ length xs + i → at (xs ++ ys) c ≡ at ys i
at-back [] ys c i e = ap (at ys) (let q : c ≡ i = omega arith in q)
at-back (x ∷ xs) ys zero i e = absurd (omega arith)
at-back (x ∷ xs) ys (suc c) i e = at-back xs ys c i (omega arith)

pub length-counted : (k n : ℕ) → length (counted k n) ≡ n
length-counted k zero = refl
length-counted k (suc n) = omega (arith, length-counted (suc k) n)

-- one number among zeros
pub length-only : (n i : ℕ) (z : ℤ) → length (only n i z) ≡ n
length-only zero i z = refl
length-only (suc n) zero z = omega (arith, length-zeros n)
length-only (suc n) (suc i) z = omega (arith, length-only n i z)

pub only_here : (n i : ℕ) (z : ℤ) → i < n → at (only n i z) i ≡ z
only_here zero i z h = absurd (omega arith)
only_here (suc n) zero z h = refl
only_here (suc n) (suc i) z h = only_here n i z (omega arith)

pub only_there : (n i j : ℕ) (z : ℤ) → i ≢ j → at (only n i z) j ≡ pos 0
only_there zero i j z n = refl
only_there (suc k) zero zero z n = absurd (n refl)
only_there (suc k) zero (suc j) z n = at-zeros k j
only_there (suc k) (suc i) zero z n = refl
only_there (suc k) (suc i) (suc j) z n = only_there k i j z (λ e. n (ap suc e))

pub dot-only : (n i : ℕ) (z : ℤ) (v : List ℤ) → length v ≡ n → dot (only n i z) v ≡ z *ℤ at v i
dot-only zero i z [] e = omega (arith, ints)
dot-only zero i z (x ∷ v) e = absurd (omega arith)
dot-only (suc n) i z [] e = absurd (omega arith)
dot-only (suc n) zero z (x ∷ v) e = rw (dot-zeros n v) (omega (arith, ints))
dot-only (suc n) (suc i) z (x ∷ v) e = rw (dot-only n i z v (omega arith)) (omega (arith, ints))

positive-only : (n i : ℕ) → i < n → LexPositive (only n i (pos 1))
positive-only zero i h = absurd (omega arith)
positive-only (suc n) zero h = inl (omega (arith, ints))
positive-only (suc n) (suc i) h = inr (refl, positive-only n i (omega arith))

-- numbers at columns that are counted
pub at_each-counted : (v xs : List ℤ) (k n : ℕ) → length xs ≡ n → ((i : ℕ) → i < n → at v (k + i) ≡ at xs i) → at_each v (counted k n) ≡ xs
at_each-counted v [] k zero e h = refl
at_each-counted v (x ∷ xs) k zero e h = absurd (omega arith)
at_each-counted v [] k (suc n) e h = absurd (omega arith)
at_each-counted v (x ∷ xs) k (suc n) e h =
    let k0 : k + 0 ≡ k = omega arith in
    let first : at v k ≡ x = ap (at v) (sym k0) ∙ h 0 (omega arith) in
    let rest : at_each v (counted (suc k) n) ≡ xs = at_each-counted v xs (suc k) n (omega arith) (λ i q. let j : suc k + i ≡ k + suc i = omega arith in ap (at v) j ∙ h (suc i) (omega arith)) in
    rw (first, rest) refl

pub basis_at-counted : (k n i : ℕ) → i < n → basis_at (counted k n) i ≡ k + i
basis_at-counted k zero i h = absurd (omega arith)
basis_at-counted k (suc n) zero h = omega arith
basis_at-counted k (suc n) (suc i) h = basis_at-counted (suc k) n i (omega arith) ∙ omega arith

pub below-counted : (k n m : ℕ) → k + n ≤ m → AllBelow m (counted k n)
below-counted k zero m h = tt
below-counted k (suc n) m h = (omega arith, below-counted (suc k) n m (omega arith))

pub row_at-mapped : (f : ℕ → List ℤ) (k n i : ℕ) → i < n → row_at (map f (counted k n)) i ≡ f (k + i)
row_at-mapped f k zero i h = absurd (omega arith)
row_at-mapped f k (suc n) zero h = ap f (let e : k ≡ k + 0 = omega arith in e)
row_at-mapped f k (suc n) (suc i) h = row_at-mapped f (suc k) n i (omega arith) ∙ ap f (let e : suc k + i ≡ k + suc i = omega arith in e)

wide-mapped : (w : ℕ) (f : ℕ → List ℤ) (k n : ℕ) → ((i : ℕ) → length (f i) ≡ w) → AllWide w (map f (counted k n))
wide-mapped w f k zero h = tt
wide-mapped w f k (suc n) h = (h k, wide-mapped w f (suc k) n h)

pub column-mapped : (c : ℕ) (f : ℕ → List ℤ) (k n i : ℕ) → i < n → at (column c (map f (counted k n))) i ≡ at (f (k + i)) c
column-mapped c f k zero i h = absurd (omega arith)
column-mapped c f k (suc n) zero h = ap (λ (j : ℕ). at (f j) c) (let e : k ≡ k + 0 = omega arith in e)
column-mapped c f k (suc n) (suc i) h = column-mapped c f (suc k) n i (omega arith) ∙ ap (λ (j : ℕ). at (f j) c) (let e : suc k + i ≡ k + suc i = omega arith in e)

pub natural_at : (xs : List ℤ) (i : ℕ) → NoneNegative xs → pos 0 ≤ℤ at xs i
natural_at [] i h = omega (arith, ints)
natural_at (x ∷ xs) zero h = h.0
natural_at (x ∷ xs) (suc i) h = natural_at xs i h.1

pub one_of : (z : ℤ) → pos 1 *ℤ z ≡ z
one_of z = omega (arith, ints)

module _ (s : LinearSystem) where
  abbrev pub width : ℕ
  width = length s.rows + (s.unknowns + 1)

  abbrev pub opened : List (List ℤ)
  opened = map (opening_row s) (counted 0 s.unknowns)

  abbrev pub values : List ℤ
  values = right_sides s ++ (zeros s.unknowns ++ pos 0 ∷ [])

  abbrev pub coefficients : ℕ → List ℤ
  coefficients i = map (λ (row : SparseRow). coefficient i row.terms) s.rows

  -- an opening row is as long as the system's rows, its unknowns, and one more
  pub length-opening_row : (i : ℕ) → length (opening_row s i) ≡ width
  length-opening_row i =
      let a = length-append (coefficients i) (only s.unknowns i (pos 1) ++ at s.weights i ∷ []) in
      let b = length-append (only s.unknowns i (pos 1)) (at s.weights i ∷ []) in
      omega (arith, length-map s.rows (λ (row : SparseRow). coefficient i row.terms), length-only s.unknowns i (pos 1))

  pub length-values : length values ≡ width
  length-values =
      let a = length-append (right_sides s) (zeros s.unknowns ++ pos 0 ∷ []) in
      let b = length-append (zeros s.unknowns) (pos 0 ∷ []) in
      omega (arith, length-map s.rows (λ (row : SparseRow). row.right), length-zeros s.unknowns)

  -- its number at a slack, and at the right side
  pub at_slack : (i j : ℕ) → j < s.unknowns → at (opening_row s i) (length s.rows + j) ≡ at (only s.unknowns i (pos 1)) j
  at_slack i j h =
      let l : length (coefficients i) ≡ length s.rows = length-map s.rows (λ (row : SparseRow). coefficient i row.terms) in
      let m = length-only s.unknowns i (pos 1) in
      at-back (coefficients i) _ (length s.rows + j) j (omega arith) ∙ at-front (only s.unknowns i (pos 1)) (at s.weights i ∷ []) j (omega arith)

  pub at_right : (i : ℕ) → at (opening_row s i) (right s) ≡ at s.weights i
  at_right i =
      let l : length (coefficients i) ≡ length s.rows = length-map s.rows (λ (row : SparseRow). coefficient i row.terms) in
      let m = length-only s.unknowns i (pos 1) in
      at-back (coefficients i) _ (right s) s.unknowns (omega arith) ∙ at-back (only s.unknowns i (pos 1)) (at s.weights i ∷ []) s.unknowns 0 (omega arith)

  pub value_at_slack : (j : ℕ) → at values (length s.rows + j) ≡ pos 0
  value_at_slack j =
      at-back (right_sides s) _ (length s.rows + j) j (let l = length-map s.rows (λ (row : SparseRow). row.right) in omega arith) ∙ zeros_on s.unknowns j
    where
      zeros_on : (n j : ℕ) → at (zeros n ++ pos 0 ∷ []) j ≡ pos 0
      zeros_on zero zero = refl
      zeros_on zero (suc j) = refl
      zeros_on (suc n) zero = refl
      zeros_on (suc n) (suc j) = zeros_on n j

  each_slack : (i : ℕ) → at_each (opening_row s i) (slacks s) ≡ only s.unknowns i (pos 1)
  each_slack i = at_each-counted (opening_row s i) (only s.unknowns i (pos 1)) (length s.rows) s.unknowns (length-only s.unknowns i (pos 1)) (at_slack i)

  no_value : at_each values (slacks s) ≡ zeros s.unknowns
  no_value = at_each-counted values (zeros s.unknowns) (length s.rows) s.unknowns (length-zeros s.unknowns) (λ i h. value_at_slack i ∙ sym (at-zeros s.unknowns i))

  pub wide_opened : AllWide width opened
  wide_opened = wide-mapped width (opening_row s) 0 s.unknowns length-opening_row

  pub length-opened : length opened ≡ s.unknowns
  length-opened = length-map (counted 0 s.unknowns) (opening_row s) ∙ length-counted 0 s.unknowns

  pub row_opened : (i : ℕ) → i < s.unknowns → row_at opened i ≡ opening_row s i
  row_opened i h = row_at-mapped (opening_row s) 0 s.unknowns i h ∙ ap (opening_row s) (let e : 0 + i ≡ i = omega arith in e)

  -- a combination's number at a slack is its factor
  dot_past : (ks : List ℤ) (j m i : ℕ) → i < j → i < s.unknowns → dot ks (column (length s.rows + i) (map (opening_row s) (counted j m))) ≡ pos 0
  dot_past [] j m i h q = refl
  dot_past (k ∷ ks) j zero i h q = refl
  dot_past (k ∷ ks) j (suc m) i h q =
      let n : j ≢ i = (λ e. omega arith) in
      rw (at_slack j i q, only_there s.unknowns j i (pos 1) n, dot_past ks (suc j) m i (omega arith) q) (omega (arith, ints))

  dot_at : (ks : List ℤ) (j m i : ℕ) → length ks ≡ m → j + i < s.unknowns → dot ks (column (length s.rows + (j + i)) (map (opening_row s) (counted j m))) ≡ at ks i
  dot_at [] j m i e q = refl
  dot_at (k ∷ ks) j zero i e q = absurd (omega arith)
  dot_at (k ∷ ks) j (suc m) zero e q =
      let n : j ≡ j + 0 = omega arith in
      let a : at (opening_row s j) (length s.rows + (j + 0)) ≡ pos 1 = at_slack j (j + 0) q ∙ ap (at (only s.unknowns j (pos 1))) (sym n) ∙ only_here s.unknowns j (pos 1) (omega arith) in
      let r : dot ks (column (length s.rows + (j + 0)) (map (opening_row s) (counted (suc j) m))) ≡ pos 0 = dot_past ks (suc j) m (j + 0) (omega arith) q in
      rw (a, r) (omega (arith, ints))
  dot_at (k ∷ ks) j (suc m) (suc i) e q =
      let n : j ≢ j + suc i = (λ e. omega arith) in
      let a : j + suc i ≡ suc j + i = omega arith in
      let r : dot ks (column (length s.rows + (j + suc i)) (map (opening_row s) (counted (suc j) m))) ≡ at ks i =
      ap (λ (z : ℕ). dot ks (column (length s.rows + z) (map (opening_row s) (counted (suc j) m)))) a ∙ dot_at ks (suc j) m i (omega arith) (omega arith) in
      rw (at_slack j (j + suc i) q, only_there s.unknowns j (j + suc i) (pos 1) n, r) (omega (arith, ints))

  factors : (k : List ℤ) → length k ≡ s.unknowns → at_each (mix width k opened) (slacks s) ≡ k
  factors k e = at_each-counted (mix width k opened) k (length s.rows) s.unknowns e (λ i h.
      let a : i ≡ 0 + i = omega arith in
      at-mix width (length s.rows + i) k opened wide_opened ∙ ap (λ (z : ℕ). dot k (column (length s.rows + z) opened)) a ∙ dot_at k 0 s.unknowns i e (omega arith))

  pub opening_sound : Sound width opened values (slacks s) (opening s)
  opening_sound = record {
    wide = wide_opened;
    gains_wide = length-values;
    one_each = length-opened ∙ sym (length-counted (length s.rows) s.unknowns);
    positive = omega (arith, ints);
    made = λ i h. record {
      made = λ c.
          let h' : i < s.unknowns = (let q = length-opened in omega arith) in
          let z : 0 + i ≡ i = omega arith in
          rw (row_opened i h', each_slack i) (sym (dot-only s.unknowns i (pos 1) (column c opened) (length-column c opened ∙ length-opened) ∙ one_of _ ∙ column-mapped c (opening_row s) 0 s.unknowns i h' ∙ ap (λ (j : ℕ). at (opening_row s j) c) z));
    };
    gained = λ c. rw (no_value, dot-zeros s.unknowns (column c opened)) (omega (arith, ints));
    spans = λ k c e. rw (factors k (e ∙ length-opened)) (one_of _ ∙ at-mix width c k opened wide_opened);
    valued = λ c. rw (no_value, dot-zeros s.unknowns (column c opened)) (omega (arith, ints));
  }

  at_basis : (m : ℕ) → m < s.unknowns → basis_at (slacks s) m ≡ length s.rows + m
  at_basis m h = basis_at-counted (length s.rows) s.unknowns m h

  pub opening_based : Based (opening s)
  opening_based = record {
    own = λ i h. let h' : i < s.unknowns = (let q = length-opened in omega arith) in
        rw (row_opened i h', at_basis i h') (at_slack i i h' ∙ only_here s.unknowns i (pos 1) h');
    other = λ i m h g n. let h' : i < s.unknowns = (let q = length-opened in omega arith) in let g' : m < s.unknowns = (let q = length-opened in omega arith) in
        rw (row_opened i h', at_basis m g') (at_slack i m g' ∙ only_there s.unknowns i m (pos 1) n);
    still = λ m g. let g' : m < s.unknowns = (let q = length-opened in omega arith) in
        rw (at_basis m g') (value_at_slack m);
  }

  positive_or_zero : (w : ℤ) (xs : List ℤ) → pos 0 ≤ℤ w → LexPositive xs → LexPositive (w ∷ xs)
  positive_or_zero w xs h p = by_lt_z (pos 0) w (λ q. inl q) (λ q. inr (omega (arith, ints), p))

  pub opening_positive : NoneNegative s.weights → RowsPositive (compared s) (opening s)
  opening_positive natural = record {
    each = λ i h. let h' : i < s.unknowns = (let q = length-opened in omega arith) in
        let numbers : at_each (row_at opened i) (compared s) ≡ at s.weights i ∷ only s.unknowns i (pos 1) =
        ap (λ (row : List ℤ). at_each row (compared s)) (row_opened i h') ∙ ap (λ (z : ℤ). z ∷ at_each (opening_row s i) (slacks s)) (at_right i) ∙ ap (λ (xs : List ℤ). at s.weights i ∷ xs) (each_slack i) in
        let P : List ℤ → Type 0 = LexPositive in
        subst P (sym numbers) (positive_or_zero (at s.weights i) _ (natural_at s.weights i natural) (positive-only s.unknowns i h'));
  }
