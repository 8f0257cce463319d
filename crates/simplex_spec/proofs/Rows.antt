-- Rows, and what is read of them at places.
use Rattle.std.proofs.Common.{◌≡◌, refl, ap, ◌∙◌, ℕ, zero, suc, ◌<◌, ℤ, pos, ◌+ℤ◌, ◌-ℤ◌, ◌*ℤ◌, arith, List, [], ◌∷◌, length, set}
use Rattle.std.proofs.lemmas.Int.{ints}
use Rattle.raml_num.proofs.Differences.{diffs, is_diff, diff_same}
use Rattle.linear_rows.specs.Vectors.{dot, scale, plus, zeros, mix, AllWide}
use Rattle.linear_rows.proofs.Products.{length-scale, length-mix}
use Rattle.simplex_spec.specs.Places.{at, row_at, at_each, column, swept}

-- the number at a place
pub at-zeros : (n c : ℕ) → at (zeros n) c ≡ pos 0
at-zeros zero c = refl
at-zeros (suc n) zero = refl
at-zeros (suc n) (suc c) = at-zeros n c

pub at-scale : (k : ℤ) (xs : List ℤ) (c : ℕ) → at (scale k xs) c ≡ k *ℤ at xs c
at-scale k [] c = omega (arith, ints)
at-scale k (x ∷ xs) zero = refl
at-scale k (x ∷ xs) (suc c) = at-scale k xs c

pub at-plus : (xs ys : List ℤ) (c : ℕ) → length xs ≡ length ys → at (plus xs ys) c ≡ at xs c +ℤ at ys c
at-plus [] [] c e = refl
at-plus [] (y ∷ ys) c e = absurd (omega arith)
at-plus (x ∷ xs) [] c e = absurd (omega arith)
at-plus (x ∷ xs) (y ∷ ys) zero e = refl
at-plus (x ∷ xs) (y ∷ ys) (suc c) e = at-plus xs ys c (omega arith)

pub at-swept : (p f : ℤ) (xs ys : List ℤ) (c : ℕ) → length xs ≡ length ys → at (swept p f xs ys) c ≡ at xs c *ℤ p -ℤ f *ℤ at ys c
at-swept p f [] [] c e = omega (arith, ints)
at-swept p f [] (y ∷ ys) c e = absurd (omega arith)
at-swept p f (x ∷ xs) [] c e = absurd (omega arith)
at-swept p f (x ∷ xs) (y ∷ ys) zero e = refl
at-swept p f (x ∷ xs) (y ∷ ys) (suc c) e = at-swept p f xs ys c (omega arith)

-- a combination's number is that of the rows' numbers
pub at-mix : (n c : ℕ) (ks : List ℤ) (rows : List (List ℤ)) → AllWide n rows → at (mix n ks rows) c ≡ dot ks (column c rows)
at-mix n c [] rows w = at-zeros n c
at-mix n c (k ∷ ks) [] w = at-zeros n c
at-mix n c (k ∷ ks) (row ∷ rows) w =
    let e : length (scale k row) ≡ n = length-scale k row ∙ w.0 in
    let f : length (mix n ks rows) ≡ n = length-mix n ks rows w.1 in
    at-plus (scale k row) (mix n ks rows) c (omega arith) ∙ rw (at-scale k row c, at-mix n c ks rows w.1) refl

-- widths
pub length-swept : (p f : ℤ) (xs ys : List ℤ) → length xs ≡ length ys → length (swept p f xs ys) ≡ length xs
length-swept p f [] ys e = refl
length-swept p f (x ∷ xs) [] e = absurd (omega arith)
length-swept p f (x ∷ xs) (y ∷ ys) e = omega (arith, length-swept p f xs ys (omega arith))

pub length-at_each : (v : List ℤ) (cs : List ℕ) → length (at_each v cs) ≡ length cs
length-at_each v [] = refl
length-at_each v (c ∷ cs) = omega (arith, length-at_each v cs)

pub length-column : (c : ℕ) (rows : List (List ℤ)) → length (column c rows) ≡ length rows
length-column c [] = refl
length-column c (row ∷ rows) = omega (arith, length-column c rows)

pub wide_at : (n l : ℕ) (rows : List (List ℤ)) → AllWide n rows → l < length rows → length (row_at rows l) ≡ n
wide_at n l [] w h = absurd (omega arith)
wide_at n zero (row ∷ rows) w h = w.0
wide_at n (suc l) (row ∷ rows) w h = wide_at n l rows w.1 (omega arith)

-- the numbers at some columns
pub at_each-set : (v : List ℤ) (cs : List ℕ) (l c : ℕ) → at_each v (set cs l c) ≡ set (at_each v cs) l (at v c)
at_each-set v [] l c = refl
at_each-set v (b ∷ cs) zero c = refl
at_each-set v (b ∷ cs) (suc l) c = ap (λ (xs : List ℤ). at v b ∷ xs) (at_each-set v cs l c)

pub at_each-swept : (p f : ℤ) (xs ys : List ℤ) (cs : List ℕ) → length xs ≡ length ys → at_each (swept p f xs ys) cs ≡ swept p f (at_each xs cs) (at_each ys cs)
at_each-swept p f xs ys [] e = refl
at_each-swept p f xs ys (c ∷ cs) e = rw (at-swept p f xs ys c e, at_each-swept p f xs ys cs e) refl

pub at_each-scale : (k : ℤ) (xs : List ℤ) (cs : List ℕ) → at_each (scale k xs) cs ≡ scale k (at_each xs cs)
at_each-scale k xs [] = refl
at_each-scale k xs (c ∷ cs) = rw (at-scale k xs c, at_each-scale k xs cs) refl

pub at-column : (c l : ℕ) (rows : List (List ℤ)) → at (column c rows) l ≡ at (row_at rows l) c
at-column c l [] = refl
at-column c zero (row ∷ rows) = refl
at-column c (suc l) (row ∷ rows) = at-column c l rows

-- the product with a swept row
one : (p f x y z a b : ℤ) → (x *ℤ p -ℤ f *ℤ y) *ℤ z +ℤ (a *ℤ p -ℤ f *ℤ b) ≡ (x *ℤ z +ℤ a) *ℤ p -ℤ f *ℤ (y *ℤ z +ℤ b)
one p f x y z a b = rw (is_diff p, is_diff f, is_diff x, is_diff y, is_diff z, is_diff a, is_diff b) (simp diffs (diff_same _ _ _ _ (omega arith)))

pub dot-swept : (p f : ℤ) (xs ys zs : List ℤ) → length xs ≡ length ys → dot (swept p f xs ys) zs ≡ dot xs zs *ℤ p -ℤ f *ℤ dot ys zs
dot-swept p f [] [] zs e = omega (arith, ints)
dot-swept p f [] (y ∷ ys) zs e = absurd (omega arith)
dot-swept p f (x ∷ xs) [] zs e = absurd (omega arith)
dot-swept p f (x ∷ xs) (y ∷ ys) [] e = omega (arith, ints)
dot-swept p f (x ∷ xs) (y ∷ ys) (z ∷ zs) e = rw (dot-swept p f xs ys zs (omega arith)) (one p f x y z (dot xs zs) (dot ys zs))
