-- One pivot keeps a tableau sound.
use Rattle.std.proofs.Common.{◌≡◌, refl, sym, ap, ◌∙◌, ℕ, zero, suc, ◌<◌, ◌≢◌, ℤ, pos, ◌+ℤ◌, ◌-ℤ◌, ◌*ℤ◌, ◌<ℤ◌, arith, List, [], ◌∷◌, length, set, ◌⊎◌, inl, inr}
use Rattle.std.proofs.lemmas.Int.{ints}
use Rattle.raml_num.proofs.Differences.{diffs, is_diff, diff_same}
use Rattle.linear_rows.proofs.Products.{length-scale, dot-scale}
use lib.IntN.{negsuc}
use lib.ListN.{length-set}
use Rattle.linear_rows.specs.Vectors.{dot, scale, mix, AllWide}
use Rattle.simplex_spec.specs.Places.{at, row_at, at_each, column, swept}
use Rattle.simplex_spec.specs.Tableaux.{Tableau, pivot, sweep, sweep_each}
use Rattle.simplex_spec.proofs.Rows.{at-swept, at-scale, at-column, at_each-set, at_each-swept, at_each-scale, dot-swept, length-swept, length-at_each, length-column, wide_at}
use Rattle.simplex_spec.proofs.Columns.{cleared, column-sweep_each, column-set, spans_on, valued_on}
use Rattle.simplex_spec.proofs.Invariant.{Made, Sound}

-- the rows after a pivot
pub length-sweep_each : (c : ℕ) (lead : List ℤ) (rows : List (List ℤ)) → length (sweep_each c lead rows) ≡ length rows
length-sweep_each c lead [] = refl
length-sweep_each c lead (row ∷ rows) = omega (arith, length-sweep_each c lead rows)

pub row_at-sweep_each : (c : ℕ) (lead : List ℤ) (rows : List (List ℤ)) (m : ℕ) → m < length rows → row_at (sweep_each c lead rows) m ≡ sweep c lead (row_at rows m)
row_at-sweep_each c lead [] m h = absurd (omega arith)
row_at-sweep_each c lead (row ∷ rows) zero h = refl
row_at-sweep_each c lead (row ∷ rows) (suc m) h = row_at-sweep_each c lead rows m (omega arith)

pub set_here : (rows : List (List ℤ)) (l : ℕ) (row : List ℤ) → l < length rows → row_at (set rows l row) l ≡ row
set_here [] l row h = absurd (omega arith)
set_here (r ∷ rows) zero row h = refl
set_here (r ∷ rows) (suc l) row h = set_here rows l row (omega arith)

pub set_there : (rows : List (List ℤ)) (l : ℕ) (row : List ℤ) (m : ℕ) → m ≢ l → row_at (set rows l row) m ≡ row_at rows m
set_there [] l row m n = refl
set_there (r ∷ rows) zero row zero n = absurd (n refl)
set_there (r ∷ rows) zero row (suc m) n = refl
set_there (r ∷ rows) (suc l) row zero n = refl
set_there (r ∷ rows) (suc l) row (suc m) n = set_there rows l row m (λ e. n (ap suc e))

pub same_or_not : (a b : ℕ) → (a ≡ b) ⊎ (a ≢ b)
same_or_not a b = grind arith

module _ (t : Tableau) (l c : ℕ) (inside : l < length t.rows) where
  pub length_after : length (pivot l c t).rows ≡ length t.rows
  length_after = length-set (sweep_each c (row_at t.rows l) t.rows) l (scale t.over (row_at t.rows l)) ∙ length-sweep_each c (row_at t.rows l) t.rows

  pub lead_after : row_at (pivot l c t).rows l ≡ scale t.over (row_at t.rows l)
  lead_after = set_here (sweep_each c (row_at t.rows l) t.rows) l _ (let e = length-sweep_each c (row_at t.rows l) t.rows in omega arith)

  pub row_after : (m : ℕ) → m < length t.rows → m ≢ l → row_at (pivot l c t).rows m ≡ sweep c (row_at t.rows l) (row_at t.rows m)
  row_after m h n = set_there (sweep_each c (row_at t.rows l) t.rows) l _ m n ∙ row_at-sweep_each c (row_at t.rows l) t.rows m h

-- widths
wide_each : (n c : ℕ) (lead : List ℤ) (rows : List (List ℤ)) → AllWide n rows → length lead ≡ n → AllWide n (sweep_each c lead rows)
wide_each n c lead [] w e = tt
wide_each n c lead (row ∷ rows) w e = (length-swept (at lead c) (at row c) row lead (w.0 ∙ sym e) ∙ w.0, wide_each n c lead rows w.1 e)

wide_set : (n : ℕ) (rows : List (List ℤ)) (l : ℕ) (row : List ℤ) → AllWide n rows → length row ≡ n → AllWide n (set rows l row)
wide_set n [] l row w e = tt
wide_set n (r ∷ rows) zero row w e = (e, w.1)
wide_set n (r ∷ rows) (suc l) row w e = (w.0, wide_set n rows l row w.1 e)

-- rows that are combinations
made_swept : (p f : ℤ) (row lead : List ℤ) (opened : List (List ℤ)) (slacks : List ℕ) → length row ≡ length lead → Made opened slacks row → Made opened slacks lead → Made opened slacks (swept p f row lead)
made_swept p f row lead opened slacks e g h = record {
  made = λ c.
      let j : length (at_each row slacks) ≡ length (at_each lead slacks) = length-at_each row slacks ∙ sym (length-at_each lead slacks) in
      at-swept p f row lead c e ∙ rw (g.made c, h.made c) refl ∙ sym (dot-swept p f (at_each row slacks) (at_each lead slacks) (column c opened) j) ∙ rw (at_each-swept p f row lead slacks e) refl;
}

made_scaled : (d : ℤ) (row : List ℤ) (opened : List (List ℤ)) (slacks : List ℕ) → Made opened slacks row → Made opened slacks (scale d row)
made_scaled d row opened slacks g = record {
  made = λ c. at-scale d row c ∙ rw (g.made c) refl ∙ sym (dot-scale d (at_each row slacks) (column c opened)) ∙ rw (at_each-scale d row slacks) refl;
}

gain_step : (d p f v a b : ℤ) → (d *ℤ v +ℤ a) *ℤ p -ℤ f *ℤ b ≡ (d *ℤ p) *ℤ v +ℤ (a *ℤ p -ℤ f *ℤ b)
gain_step d p f v a b = rw (is_diff d, is_diff p, is_diff f, is_diff v, is_diff a, is_diff b) (simp diffs (diff_same _ _ _ _ (omega arith)))

gained_swept : (d p f v : ℤ) (gains lead : List ℤ) (opened : List (List ℤ)) (slacks : List ℕ) (c : ℕ) → length gains ≡ length lead
    → at gains c ≡ d *ℤ v +ℤ dot (at_each gains slacks) (column c opened) → at lead c ≡ dot (at_each lead slacks) (column c opened)
    → at (swept p f gains lead) c ≡ (d *ℤ p) *ℤ v +ℤ dot (at_each (swept p f gains lead) slacks) (column c opened)
gained_swept d p f v gains lead opened slacks c e g h =
    let j : length (at_each gains slacks) ≡ length (at_each lead slacks) = length-at_each gains slacks ∙ sym (length-at_each lead slacks) in
    let r : dot (at_each (swept p f gains lead) slacks) (column c opened) ≡ dot (at_each gains slacks) (column c opened) *ℤ p -ℤ f *ℤ dot (at_each lead slacks) (column c opened) =
    ap (λ (xs : List ℤ). dot xs (column c opened)) (at_each-swept p f gains lead slacks e) ∙ dot-swept p f (at_each gains slacks) (at_each lead slacks) (column c opened) j in
    rw (at-swept p f gains lead c e, g, h, r) (gain_step d p f v (dot (at_each gains slacks) (column c opened)) (dot (at_each lead slacks) (column c opened)))

pub above : (a b : ℤ) → pos 0 <ℤ a → pos 0 <ℤ b → pos 0 <ℤ (a *ℤ b)
above (pos zero) b h k = absurd (omega (arith, ints))
above (negsuc m) b h k = absurd (omega (arith, ints))
above (pos (suc m)) (pos zero) h k = absurd (omega (arith, ints))
above (pos (suc m)) (negsuc n) h k = absurd (omega (arith, ints))
above (pos (suc m)) (pos (suc n)) h k = omega (arith, ints)

pub keeps : (n : ℕ) (opened : List (List ℤ)) (values : List ℤ) (slacks : List ℕ) (t : Tableau) (l c : ℕ)
    → Sound n opened values slacks t → l < length t.rows → pos 0 <ℤ at (row_at t.rows l) c → Sound n opened values slacks (pivot l c t)
keeps n opened values slacks t l c k inside entry =
    let lead : List ℤ = row_at t.rows l in
    let p : ℤ = at lead c in
    let long : length lead ≡ n = wide_at n l t.rows k.wide inside in
    let glong : length t.gains ≡ length lead = k.gains_wide ∙ sym long in
    let lk : (i : ℕ) → length (column i t.rows) ≡ length t.rows = λ i. length-column i t.rows in
    let col : (i : ℕ) → column i (pivot l c t).rows ≡ set (cleared p (at lead i) (column i t.rows) (column c t.rows)) l (t.over *ℤ at lead i) = λ i.
    column-set i (sweep_each c lead t.rows) l (scale t.over lead) ∙ rw (column-sweep_each c i lead n t.rows k.wide long, at-scale t.over lead i) refl in
    record {
      wide = wide_set n (sweep_each c lead t.rows) l (scale t.over lead) (wide_each n c lead t.rows k.wide long) (length-scale t.over lead ∙ long);
      gains_wide = length-swept p (at t.gains c) t.gains lead glong ∙ k.gains_wide;
      one_each = length_after t l c inside ∙ k.one_each ∙ sym (length-set t.basis l c);
      positive = above t.over p k.positive entry;
      made = λ i h. let i' : i < length t.rows = (let q = length_after t l c inside in omega arith) in elim (same_or_not i l) [
        | inl e ↦ rw (e, lead_after t l c inside) (made_scaled t.over lead opened slacks (k.made l inside))
        | inr e ↦ rw (row_after t l c inside i i' e) (made_swept p (at (row_at t.rows i) c) (row_at t.rows i) lead opened slacks (wide_at n i t.rows k.wide i' ∙ sym long) (k.made i i') (k.made l inside))
      ];
      gained = λ i. gained_swept t.over p (at t.gains c) (at values i) t.gains lead opened slacks i glong (k.gained i) ((k.made l inside).made i);
      spans = λ m i e. rw (at_each-set (mix n m opened) t.basis l c, col i)
          (spans_on t.over p (at (mix n m opened) i) (at (mix n m opened) c) (at lead i) l (at_each (mix n m opened) t.basis) (column i t.rows) (column c t.rows)
          (length-at_each (mix n m opened) t.basis ∙ sym k.one_each ∙ sym (lk i)) (lk c ∙ sym (lk i)) (let z = lk i in omega arith)
          (at-column i l t.rows) (at-column c l t.rows) (k.spans m i e) (k.spans m c e));
      valued = λ i. rw (at_each-set values t.basis l c, col i, at-swept p (at t.gains c) t.gains lead i glong)
          (valued_on t.over p (at values i) (at values c) (at lead i) (at t.gains i) (at t.gains c) l (at_each values t.basis) (column i t.rows) (column c t.rows)
          (length-at_each values t.basis ∙ sym k.one_each ∙ sym (lk i)) (lk c ∙ sym (lk i)) (let z = lk i in omega arith)
          (at-column i l t.rows) (at-column c l t.rows) (k.valued i) (k.valued c));
    }
