-- Products of vectors and of matrices.
use Rattle.std.proofs.Common.{◌≡◌, refl, sym, ap, ◌∙◌, ℕ, zero, suc, ℤ, pos, ◌+ℤ◌, ◌*ℤ◌, ◌≤ℤ◌, arith, List, [], ◌∷◌, length}
use Rattle.std.proofs.lemmas.Int.{ints}
use Rattle.raml_num.proofs.Differences.{diffs, is_diff, diff_same}
use Rattle.raml_num.proofs.Signed.{le_mul}
use lib.IntN.{*ℤ_comm}
use Rattle.raml_num.specs.Sums.{NoneNegative}
use Rattle.linear_rows.specs.Vectors.{dot, scale, plus, zeros, mix, times, AllWide, AtMost}

-- (k a) b + k r = k (a b + r), and (a + b) x + (p + q) = (a x + p) + (b x + q)
pull : (k a b r : ℤ) → (k *ℤ a) *ℤ b +ℤ k *ℤ r ≡ k *ℤ (a *ℤ b +ℤ r)
pull k a b r = rw (is_diff k, is_diff a, is_diff b, is_diff r) (simp diffs (diff_same _ _ _ _ (omega arith)))

share : (a b x p q : ℤ) → (a +ℤ b) *ℤ x +ℤ (p +ℤ q) ≡ (a *ℤ x +ℤ p) +ℤ (b *ℤ x +ℤ q)
share a b x p q = rw (is_diff a, is_diff b, is_diff x, is_diff p, is_diff q) (simp diffs (diff_same _ _ _ _ (omega arith)))

zero_mul : (k : ℤ) → k *ℤ pos 0 ≡ pos 0
zero_mul k = omega (arith, ints)

pub dot-scale : (k : ℤ) (xs ys : List ℤ) → dot (scale k xs) ys ≡ k *ℤ dot xs ys
dot-scale k [] ys = sym (zero_mul k)
dot-scale k (x ∷ xs) [] = sym (zero_mul k)
dot-scale k (x ∷ xs) (y ∷ ys) = ap (λ (v : ℤ). (k *ℤ x) *ℤ y +ℤ v) (dot-scale k xs ys) ∙ pull k x y (dot xs ys)

pub dot-plus : (ds bs xs : List ℤ) → length ds ≡ length bs → dot (plus ds bs) xs ≡ dot ds xs +ℤ dot bs xs
dot-plus [] [] xs e = omega (arith, ints)
dot-plus [] (b ∷ bs) xs e = absurd (omega arith)
dot-plus (a ∷ ds) [] xs e = absurd (omega arith)
dot-plus (a ∷ ds) (b ∷ bs) [] e = omega (arith, ints)
dot-plus (a ∷ ds) (b ∷ bs) (x ∷ xs) e = ap (λ (v : ℤ). (a +ℤ b) *ℤ x +ℤ v) (dot-plus ds bs xs (omega arith)) ∙ share a b x (dot ds xs) (dot bs xs)

pub dot-zeros : (n : ℕ) (xs : List ℤ) → dot (zeros n) xs ≡ pos 0
dot-zeros zero xs = refl
dot-zeros (suc n) [] = refl
dot-zeros (suc n) (x ∷ xs) = let h : dot (zeros n) xs ≡ pos 0 = dot-zeros n xs in omega (arith, ints)

pub length-scale : (k : ℤ) (xs : List ℤ) → length (scale k xs) ≡ length xs
length-scale k [] = refl
length-scale k (x ∷ xs) = omega (arith, length-scale k xs)

pub length-plus : (xs ys : List ℤ) → length xs ≡ length ys → length (plus xs ys) ≡ length xs
length-plus [] ys e = refl
length-plus (x ∷ xs) [] e = absurd (omega arith)
length-plus (x ∷ xs) (y ∷ ys) e = omega (arith, length-plus xs ys (omega arith))

pub length-zeros : (n : ℕ) → length (zeros n) ≡ n
length-zeros zero = refl
length-zeros (suc n) = omega (arith, length-zeros n)

pub length-mix : (n : ℕ) (ks : List ℤ) (rows : List (List ℤ)) → AllWide n rows → length (mix n ks rows) ≡ n
length-mix n [] rows w = length-zeros n
length-mix n (k ∷ ks) [] w = length-zeros n
length-mix n (k ∷ ks) (row ∷ rows) w =
    let e : length (scale k row) ≡ n = length-scale k row ∙ w.0 in
    let f : length (mix n ks rows) ≡ n = length-mix n ks rows w.1 in
    length-plus (scale k row) (mix n ks rows) (omega arith) ∙ e

-- (y A) x = y (A x)
pub dot-mix : (n : ℕ) (ks : List ℤ) (rows : List (List ℤ)) (x : List ℤ) → AllWide n rows → dot (mix n ks rows) x ≡ dot ks (times rows x)
dot-mix n [] rows x w = dot-zeros n x
dot-mix n (k ∷ ks) [] x w = dot-zeros n x
dot-mix n (k ∷ ks) (row ∷ rows) x w =
    let e : length (scale k row) ≡ n = length-scale k row ∙ w.0 in
    let f : length (mix n ks rows) ≡ n = length-mix n ks rows w.1 in
    let s = dot-plus (scale k row) (mix n ks rows) x (omega arith) in
    let p = dot-scale k row x in
    let q = dot-mix n ks rows x w.1 in
    cc

-- a vector that is not negative keeps the order
pub dot-grows : (xs ys k : List ℤ) → AtMost xs ys → NoneNegative k → dot xs k ≤ℤ dot ys k
dot-grows [] [] k h n = omega (arith, ints)
dot-grows [] (y ∷ ys) k h n = absurd h
dot-grows (x ∷ xs) [] k h n = absurd h
dot-grows (x ∷ xs) (y ∷ ys) [] h n = omega (arith, ints)
dot-grows (x ∷ xs) (y ∷ ys) (z ∷ zs) h n =
    let r : dot xs zs ≤ℤ dot ys zs = dot-grows xs ys zs h.1 n.1 in
    let m : (z *ℤ x) ≤ℤ (z *ℤ y) = le_mul x y z h.0 n.0 in
    let a : x *ℤ z ≡ z *ℤ x = *ℤ_comm x z in
    let b : y *ℤ z ≡ z *ℤ y = *ℤ_comm y z in
    omega (arith, ints)

pub dot-comm : (xs ys : List ℤ) → dot xs ys ≡ dot ys xs
dot-comm [] [] = refl
dot-comm [] (y ∷ ys) = refl
dot-comm (x ∷ xs) [] = refl
dot-comm (x ∷ xs) (y ∷ ys) = rw (*ℤ_comm x y, dot-comm xs ys) refl

-- weak duality
pub at_most_along : (a b c d : ℤ) → a ≤ℤ b → b ≡ c → c ≤ℤ d → a ≤ℤ d
at_most_along a b c d h e k = omega (arith, ints)

pub dual_below : (n : ℕ) (rows : List (List ℤ)) (b c x y : List ℤ) → AllWide n rows → NoneNegative x → NoneNegative y
    → AtMost b (times rows x) → AtMost (mix n y rows) c → dot y b ≤ℤ dot c x
dual_below n rows b c x y w nx ny h k =
    rw (dot-comm y b) (at_most_along _ _ _ _ (dot-grows b (times rows x) y h ny) (dot-comm (times rows x) y ∙ sym (dot-mix n y rows x w)) (dot-grows (mix n y rows) c x k nx))
