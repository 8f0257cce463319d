-- The columns of a tableau after a pivot.
use Rattle.std.proofs.Common.{◌≡◌, refl, sym, ap, ◌∙◌, ℕ, zero, suc, ◌<◌, ℤ, ◌+ℤ◌, ◌-ℤ◌, ◌*ℤ◌, arith, List, [], ◌∷◌, length, set}
use Rattle.std.proofs.lemmas.Int.{ints}
use Rattle.raml_num.proofs.Differences.{diffs, is_diff, diff_same}
use Rattle.linear_rows.specs.Vectors.{dot, AllWide}
use Rattle.simplex_spec.specs.Places.{at, column}
use Rattle.simplex_spec.specs.Tableaux.{sweep_each}
use Rattle.simplex_spec.proofs.Rows.{at-swept}

-- a column ys less what the pivot's column fs has of x, times p
abbrev pub cleared : ℤ → ℤ → List ℤ → List ℤ → List ℤ
cleared p x [] fs = []
cleared p x (y ∷ ys) [] = []
cleared p x (y ∷ ys) (f ∷ fs) = (y *ℤ p -ℤ f *ℤ x) ∷ cleared p x ys fs

pub column-sweep_each : (c k : ℕ) (lead : List ℤ) (n : ℕ) (rows : List (List ℤ)) → AllWide n rows → length lead ≡ n
    → column k (sweep_each c lead rows) ≡ cleared (at lead c) (at lead k) (column k rows) (column c rows)
column-sweep_each c k lead n [] w e = refl
column-sweep_each c k lead n (row ∷ rows) w e = rw (at-swept (at lead c) (at row c) row lead k (w.0 ∙ sym e), column-sweep_each c k lead n rows w.1 e) refl

pub column-set : (k : ℕ) (rows : List (List ℤ)) (l : ℕ) (row : List ℤ) → column k (set rows l row) ≡ set (column k rows) l (at row k)
column-set k [] l row = refl
column-set k (r ∷ rows) zero row = refl
column-set k (r ∷ rows) (suc l) row = ap (λ (xs : List ℤ). at r k ∷ xs) (column-set k rows l row)

rest_step : (p x k y f a b : ℤ) → k *ℤ (y *ℤ p -ℤ f *ℤ x) +ℤ (a *ℤ p -ℤ b *ℤ x) ≡ (k *ℤ y +ℤ a) *ℤ p -ℤ (k *ℤ f +ℤ b) *ℤ x
rest_step p x k y f a b = rw (is_diff p, is_diff x, is_diff k, is_diff y, is_diff f, is_diff a, is_diff b) (simp diffs (diff_same _ _ _ _ (omega arith)))

dot-cleared : (p x : ℤ) (ks ys fs : List ℤ) → length ks ≡ length ys → length fs ≡ length ys → dot ks (cleared p x ys fs) ≡ dot ks ys *ℤ p -ℤ dot ks fs *ℤ x
dot-cleared p x [] [] [] e g = omega (arith, ints)
dot-cleared p x [] (y ∷ ys) fs e g = absurd (omega arith)
dot-cleared p x [] [] (f ∷ fs) e g = absurd (omega arith)
dot-cleared p x (k ∷ ks) [] fs e g = absurd (omega arith)
dot-cleared p x (k ∷ ks) (y ∷ ys) [] e g = absurd (omega arith)
dot-cleared p x (k ∷ ks) (y ∷ ys) (f ∷ fs) e g = rw (dot-cleared p x ks ys fs (omega arith) (omega arith)) (rest_step p x k y f (dot ks ys) (dot ks fs))

here : (d p x n k a b : ℤ) → n *ℤ (d *ℤ x) +ℤ (a *ℤ p -ℤ b *ℤ x) ≡ ((k *ℤ x +ℤ a) *ℤ p -ℤ (k *ℤ p +ℤ b) *ℤ x) +ℤ (n *ℤ d) *ℤ x
here d p x n k a b = rw (is_diff d, is_diff p, is_diff x, is_diff n, is_diff k, is_diff a, is_diff b) (simp diffs (diff_same _ _ _ _ (omega arith)))

there : (p x k y f a b m : ℤ) → k *ℤ (y *ℤ p -ℤ f *ℤ x) +ℤ ((a *ℤ p -ℤ b *ℤ x) +ℤ m) ≡ ((k *ℤ y +ℤ a) *ℤ p -ℤ (k *ℤ f +ℤ b) *ℤ x) +ℤ m
there p x k y f a b m = rw (is_diff p, is_diff x, is_diff k, is_diff y, is_diff f, is_diff a, is_diff b, is_diff m) (simp diffs (diff_same _ _ _ _ (omega arith)))

-- the product with the new column, where the factor n stands at the pivot's row
pub dot-pivoted : (d p x n : ℤ) (l : ℕ) (ks ys fs : List ℤ) → length ks ≡ length ys → length fs ≡ length ys → l < length ys → at ys l ≡ x → at fs l ≡ p
    → dot (set ks l n) (set (cleared p x ys fs) l (d *ℤ x)) ≡ (dot ks ys *ℤ p -ℤ dot ks fs *ℤ x) +ℤ (n *ℤ d) *ℤ x
dot-pivoted d p x n l ks [] fs e g h i j = absurd (omega arith)
dot-pivoted d p x n l [] (y ∷ ys) fs e g h i j = absurd (omega arith)
dot-pivoted d p x n l (k ∷ ks) (y ∷ ys) [] e g h i j = absurd (omega arith)
dot-pivoted d p x n zero (k ∷ ks) (y ∷ ys) (f ∷ fs) e g h i j =
    rw (dot-cleared p x ks ys fs (omega arith) (omega arith), i, j) (here d p x n k (dot ks ys) (dot ks fs))
dot-pivoted d p x n (suc l) (k ∷ ks) (y ∷ ys) (f ∷ fs) e g h i j =
    rw (dot-pivoted d p x n l ks ys fs (omega arith) (omega arith) (omega arith) i j) (there p x k y f (dot ks ys) (dot ks fs) ((n *ℤ d) *ℤ x))

close : (d p v w x : ℤ) → ((d *ℤ v) *ℤ p -ℤ (d *ℤ w) *ℤ x) +ℤ (w *ℤ d) *ℤ x ≡ (d *ℤ p) *ℤ v
close d p v w x = rw (is_diff d, is_diff p, is_diff v, is_diff w, is_diff x) (simp diffs (diff_same _ _ _ _ (omega arith)))

-- where v and w are told by the columns ys and fs, v is told by the new column
pub spans_on : (d p v w x : ℤ) (l : ℕ) (ks ys fs : List ℤ) → length ks ≡ length ys → length fs ≡ length ys → l < length ys → at ys l ≡ x → at fs l ≡ p
    → d *ℤ v ≡ dot ks ys → d *ℤ w ≡ dot ks fs → (d *ℤ p) *ℤ v ≡ dot (set ks l w) (set (cleared p x ys fs) l (d *ℤ x))
spans_on d p v w x l ks ys fs e g h i j a b = sym (dot-pivoted d p x w l ks ys fs e g h i j ∙ rw (← a, ← b) (close d p v w x))

closing : (d p v w x : ℤ) → (d *ℤ p) *ℤ v ≡ ((d *ℤ v) *ℤ p -ℤ (d *ℤ w) *ℤ x) +ℤ (w *ℤ d) *ℤ x
closing d p v w x = rw (is_diff d, is_diff p, is_diff v, is_diff w, is_diff x) (simp diffs (diff_same _ _ _ _ (omega arith)))

opening_out : (p g h x a b m : ℤ) → ((g +ℤ a) *ℤ p -ℤ (h +ℤ b) *ℤ x) +ℤ m ≡ (g *ℤ p -ℤ h *ℤ x) +ℤ ((a *ℤ p -ℤ b *ℤ x) +ℤ m)
opening_out p g h x a b m = rw (is_diff p, is_diff g, is_diff h, is_diff x, is_diff a, is_diff b, is_diff m) (simp diffs (diff_same _ _ _ _ (omega arith)))

value_step : (d p g h v w x a b : ℤ) → d *ℤ v ≡ g +ℤ a → d *ℤ w ≡ h +ℤ b → (d *ℤ p) *ℤ v ≡ (g *ℤ p -ℤ h *ℤ x) +ℤ ((a *ℤ p -ℤ b *ℤ x) +ℤ (w *ℤ d) *ℤ x)
value_step d p g h v w x a b e f =
    let i : (d *ℤ p) *ℤ v ≡ ((d *ℤ v) *ℤ p -ℤ (d *ℤ w) *ℤ x) +ℤ (w *ℤ d) *ℤ x = closing d p v w x in
    i ∙ rw (e, f) (opening_out p g h x a b ((w *ℤ d) *ℤ x))

-- the same with what is left in a row, g and h
pub valued_on : (d p v w x g h : ℤ) (l : ℕ) (ks ys fs : List ℤ) → length ks ≡ length ys → length fs ≡ length ys → l < length ys → at ys l ≡ x → at fs l ≡ p
    → d *ℤ v ≡ g +ℤ dot ks ys → d *ℤ w ≡ h +ℤ dot ks fs → (d *ℤ p) *ℤ v ≡ (g *ℤ p -ℤ h *ℤ x) +ℤ dot (set ks l w) (set (cleared p x ys fs) l (d *ℤ x))
valued_on d p v w x g h l ks ys fs e f i j k a b = rw (dot-pivoted d p x w l ks ys fs e f i j k) (value_step d p g h v w x (dot ks ys) (dot ks fs) a b)
