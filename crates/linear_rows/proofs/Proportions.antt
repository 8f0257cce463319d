-- Numbers in proportion solve, prove and refute alike.
use Rattle.std.proofs.Common.{◌≡◌, refl, sym, ap, ◌∙◌, subst, ℕ, zero, suc, ℤ, pos, ◌+ℤ◌, ◌*ℤ◌, ◌≤ℤ◌, ◌<ℤ◌, arith, List, [], ◌∷◌, length}
use Rattle.std.proofs.lemmas.Int.{ints}
use borrow.Author.Differences.{up}
use Rattle.raml_num.specs.Sums.{NoneNegative}
use Rattle.raml_num.proofs.Differences.{diffs, is_diff, diff_same, mul_assoc, mul_over}
use Rattle.raml_num.proofs.Signed.{natural, none_mul, le_mul, lt_cancel, cancelled}
use Rattle.linear_rows.specs.Systems.{LinearSystem, Solves, Refutes, IsDual, IsLeast, matrix, right_sides}
use Rattle.linear_rows.specs.Vectors.{dot, scale, plus, zeros, mix, times, AtMost}
use Rattle.linear_rows.specs.Laws.{InProportion, ProportionsAgree}
use Rattle.linear_rows.proofs.Products.{dot-scale, length-scale}
use Rattle.linear_rows.proofs.Duality.{scaled_right, positive}

swap : (k m x : ℤ) → k *ℤ (m *ℤ x) ≡ m *ℤ (k *ℤ x)
swap k m x = rw (is_diff k, is_diff m, is_diff x) (simp diffs (diff_same _ _ _ _ (omega arith)))

zero_mul : (k : ℤ) → k *ℤ pos 0 ≡ pos 0
zero_mul k = omega (arith, ints)

-- multiples of lists
scale-swap : (k m : ℤ) (xs : List ℤ) → scale k (scale m xs) ≡ scale m (scale k xs)
scale-swap k m [] = refl
scale-swap k m (x ∷ xs) = rw (swap k m x, scale-swap k m xs) refl

scale-product : (k m : ℤ) (xs : List ℤ) → scale (k *ℤ m) xs ≡ scale k (scale m xs)
scale-product k m [] = refl
scale-product k m (x ∷ xs) = rw (mul_assoc k m x, scale-product k m xs) refl

scale-zeros : (k : ℤ) (n : ℕ) → scale k (zeros n) ≡ zeros n
scale-zeros k zero = refl
scale-zeros k (suc n) = rw (zero_mul k, scale-zeros k n) refl

scale-plus : (k : ℤ) (xs ys : List ℤ) → scale k (plus xs ys) ≡ plus (scale k xs) (scale k ys)
scale-plus k [] ys = refl
scale-plus k (x ∷ xs) [] = refl
scale-plus k (x ∷ xs) (y ∷ ys) = rw (mul_over k x y, scale-plus k xs ys) refl

mix-scale : (n : ℕ) (k : ℤ) (ys : List ℤ) (rows : List (List ℤ)) → mix n (scale k ys) rows ≡ scale k (mix n ys rows)
mix-scale n k [] rows = sym (scale-zeros k n)
mix-scale n k (y ∷ ys) [] = sym (scale-zeros k n)
mix-scale n k (y ∷ ys) (row ∷ rows) = rw (scale-product k y row, mix-scale n k ys rows, scale-plus k (scale y row) (mix n ys rows)) refl

times-scale : (k : ℤ) (rows : List (List ℤ)) (x : List ℤ) → times rows (scale k x) ≡ scale k (times rows x)
times-scale k [] x = refl
times-scale k (row ∷ rows) x = rw (scaled_right k row x, times-scale k rows x) refl

-- a positive factor keeps the order, and takes none away
le_cancel : (k a b : ℤ) → pos 0 <ℤ k → (k *ℤ a) ≤ℤ (k *ℤ b) → a ≤ℤ b
le_cancel k a b p h =
    let e : k ≡ pos (up k) = natural k (omega (arith, ints)) in
    let m = mul_over k b (pos 1) in
    let o : k *ℤ pos 1 ≡ k = omega (arith, ints) in
    let g : (k *ℤ a) <ℤ (k *ℤ (b +ℤ pos 1)) = omega (arith, ints) in
    let l = lt_cancel a (b +ℤ pos 1) (up k) (subst (λ v. (v *ℤ a) <ℤ (v *ℤ (b +ℤ pos 1))) e g) in
    omega (arith, ints)

natural_cancel : (k a : ℤ) → pos 0 <ℤ k → pos 0 ≤ℤ (k *ℤ a) → pos 0 ≤ℤ a
natural_cancel k a p h = le_cancel k (pos 0) a p (subst (λ v. v ≤ℤ (k *ℤ a)) (sym (zero_mul k)) h)

positive_cancel : (k a : ℤ) → pos 0 <ℤ k → pos 0 <ℤ (k *ℤ a) → pos 0 <ℤ a
positive_cancel k a p h =
    let e : k ≡ pos (up k) = natural k (omega (arith, ints)) in
    lt_cancel (pos 0) a (up k) (subst (λ v. (v *ℤ pos 0) <ℤ (v *ℤ a)) e (subst (λ v. v <ℤ (k *ℤ a)) (sym (zero_mul k)) h))

grows : (k : ℤ) (xs ys : List ℤ) → pos 0 <ℤ k → AtMost xs ys → AtMost (scale k xs) (scale k ys)
grows k [] [] p h = tt
grows k [] (y ∷ ys) p h = absurd h
grows k (x ∷ xs) [] p h = absurd h
grows k (x ∷ xs) (y ∷ ys) p h = (le_mul x y k h.0 (omega (arith, ints)), grows k xs ys p h.1)

shrinks : (k : ℤ) (xs ys : List ℤ) → pos 0 <ℤ k → AtMost (scale k xs) (scale k ys) → AtMost xs ys
shrinks k [] [] p h = tt
shrinks k [] (y ∷ ys) p h = absurd h
shrinks k (x ∷ xs) [] p h = absurd h
shrinks k (x ∷ xs) (y ∷ ys) p h = (le_cancel k x y p h.0, shrinks k xs ys p h.1)

natural_up : (k : ℤ) (xs : List ℤ) → pos 0 <ℤ k → NoneNegative xs → NoneNegative (scale k xs)
natural_up k [] p h = tt
natural_up k (x ∷ xs) p h = (none_mul k x (omega (arith, ints)) h.0, natural_up k xs p h.1)

natural_down : (k : ℤ) (xs : List ℤ) → pos 0 <ℤ k → NoneNegative (scale k xs) → NoneNegative xs
natural_down k [] p h = tt
natural_down k (x ∷ xs) p h = (natural_cancel k x p h.0, natural_down k xs p h.1)

module _ (t r : ℤ) where
  -- what is at most stays so in proportion
  at_most_along : (xs ys zs ws : List ℤ) → pos 0 <ℤ t → pos 0 <ℤ r → InProportion t r xs zs → InProportion t r ys ws → AtMost xs ys → AtMost zs ws
  at_most_along xs ys zs ws pt pr p q h = shrinks t zs ws pt (subst (AtMost (scale t zs)) q (subst (λ v. AtMost v (scale r ys)) p (grows r xs ys pr h)))

  length_along : (x z : List ℤ) → InProportion t r x z → length z ≡ length x
  length_along x z p = sym (length-scale t z) ∙ ap length (sym p) ∙ length-scale r x

  natural_along : (x z : List ℤ) → pos 0 <ℤ t → pos 0 <ℤ r → InProportion t r x z → NoneNegative x → NoneNegative z
  natural_along x z pt pr p h = natural_down t z pt (subst NoneNegative p (natural_up r x pr h))

  mix_along : (n : ℕ) (y w : List ℤ) (rows : List (List ℤ)) → InProportion t r y w → InProportion t r (mix n y rows) (mix n w rows)
  mix_along n y w rows p = sym (mix-scale n r y rows) ∙ ap (λ (v : List ℤ). mix n v rows) p ∙ mix-scale n t w rows

  times_along : (rows : List (List ℤ)) (x z : List ℤ) → InProportion t r x z → InProportion t r (times rows x) (times rows z)
  times_along rows x z p = sym (times-scale r rows x) ∙ ap (times rows) p ∙ times-scale t rows z

  dot_along : (y w b : List ℤ) → InProportion t r y w → r *ℤ dot y b ≡ t *ℤ dot w b
  dot_along y w b p = sym (dot-scale r y b) ∙ ap (λ (v : List ℤ). dot v b) p ∙ dot-scale t w b

  cost_along : (c x z : List ℤ) → InProportion t r x z → r *ℤ dot c x ≡ t *ℤ dot c z
  cost_along c x z p = sym (scaled_right r c x) ∙ ap (dot c) p ∙ scaled_right t c z

  solves : (s : LinearSystem) (x z : List ℤ) → pos 0 <ℤ t → pos 0 <ℤ r → InProportion t r x z → Solves s x t → Solves s z r
  solves s x z pt pr p h = record {
    one_each = length_along x z p ∙ h.one_each;
    natural = natural_along x z pt pr p h.natural;
    rows = at_most_along (scale t (right_sides s)) (times (matrix s) x) (scale r (right_sides s)) (times (matrix s) z) pt pr (scale-swap r t (right_sides s)) (times_along (matrix s) x z p) h.rows;
  }

  dual : (s : LinearSystem) (y w : List ℤ) → pos 0 <ℤ t → pos 0 <ℤ r → InProportion t r y w → IsDual s y t → IsDual s w r
  dual s y w pt pr p h = record {
    one_each = length_along y w p ∙ h.one_each;
    natural = natural_along y w pt pr p h.natural;
    columns = at_most_along (mix s.unknowns y (matrix s)) (scale t s.weights) (mix s.unknowns w (matrix s)) (scale r s.weights) pt pr (mix_along s.unknowns y w (matrix s) p) (scale-swap r t s.weights) h.columns;
  }

  equal : (s : LinearSystem) (x y z w : List ℤ) → pos 0 <ℤ t → InProportion t r x z → InProportion t r y w → dot y (right_sides s) ≡ dot s.weights x → dot w (right_sides s) ≡ dot s.weights z
  equal s x y z w pt p q e =
      cancelled t (dot w (right_sides s)) (dot s.weights z) (λ n. omega (arith, ints))
      (sym (dot_along y w (right_sides s) q) ∙ ap (λ (v : ℤ). r *ℤ v) e ∙ cost_along s.weights x z p)

  refutes : (s : LinearSystem) (y w : List ℤ) → pos 0 <ℤ t → pos 0 <ℤ r → InProportion t r y w → Refutes s y → Refutes s w
  refutes s y w pt pr p h = record {
    one_each = length_along y w p ∙ h.one_each;
    natural = natural_along y w pt pr p h.natural;
    columns = at_most_along (mix s.unknowns y (matrix s)) (zeros s.unknowns) (mix s.unknowns w (matrix s)) (zeros s.unknowns) pt pr (mix_along s.unknowns y w (matrix s) p) (scale-zeros r s.unknowns ∙ sym (scale-zeros t s.unknowns)) h.columns;
    right = positive_cancel t (dot w (right_sides s)) pt (subst (λ v. pos 0 <ℤ v) (dot_along y w (right_sides s) p) (positive r (dot y (right_sides s)) pr h.right));
  }

  -- t (q b) is at most t (r d), where r a is t b
  carried : (q a b d : ℤ) → pos 0 <ℤ r → r *ℤ a ≡ t *ℤ b → (q *ℤ a) ≤ℤ (t *ℤ d) → (t *ℤ (q *ℤ b)) ≤ℤ (t *ℤ (r *ℤ d))
  carried q a b d pr e h =
      let m : (r *ℤ (q *ℤ a)) ≤ℤ (r *ℤ (t *ℤ d)) = le_mul (q *ℤ a) (t *ℤ d) r h (omega (arith, ints)) in
      subst (λ v. v ≤ℤ (t *ℤ (r *ℤ d))) (swap r q a ∙ ap (λ (v : ℤ). q *ℤ v) e ∙ swap q t b) (subst (λ v. (r *ℤ (q *ℤ a)) ≤ℤ v) (swap r t d) m)

  least : (s : LinearSystem) (x z : List ℤ) → pos 0 <ℤ t → pos 0 <ℤ r → InProportion t r x z → IsLeast s x t → IsLeast s z r
  least s x z pt pr p h = record {
    solves = solves s x z pt pr p h.solves;
    least = λ v q pq other. le_cancel t (q *ℤ dot s.weights z) (r *ℤ dot s.weights v) pt (carried q (dot s.weights x) (dot s.weights z) (dot s.weights v) pr (cost_along s.weights x z p) (h.least v q pq other));
  }

pub agree : ProportionsAgree
agree = record {
  solves = λ s x z t r pt pr p h. solves t r s x z pt pr p h;
  dual = λ s y w t r pt pr p h. dual t r s y w pt pr p h;
  least = λ s x z t r pt pr p h. least t r s x z pt pr p h;
  proves = λ s x y z w t r pr p q h. record {
    positive = pr;
    solves = solves t r s x z h.positive pr p h.solves;
    dual = dual t r s y w h.positive pr q h.dual;
    equal = equal t r s x y z w h.positive p q h.equal;
  };
  refutes = λ s y w t r pt pr p h. refutes t r s y w pt pr p h;
}
