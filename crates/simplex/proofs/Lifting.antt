-- What quotients and differences of fractions stand for.
use Rattle.std.proofs.Common.{◌≡◌, sym, ap, ◌∙◌, ℕ, ◌+◌, ◌*◌, ◌/◌, ◌<◌, ℤ, pos, neg_ℤ, ◌-ℤ◌, ◌*ℤ◌, ◌<ℤ◌, arith, ◌⊎◌, inl, inr}
use Rattle.std.proofs.lemmas.Int.{ints}
use Rattle.std.proofs.Math.Nat.{mul-pos, one-dvd}
use Rattle.raml_num.specs.Divisors.{IsLcm}
use Rattle.raml_num.proofs.Differences.{diffs, diff-pos, is_diff, diff_same}
use Rattle.raml_num.proofs.Signed.{cancelled}
use Rattle.raml_num.proofs.Dividing.{through}
use Rattle.raml_num.proofs.Multiples.{is_lcm}
use Rattle.frac128.specs.declared.Frac.{Frac}
use Rattle.frac128.specs.Order.{same_parts}
use Rattle.frac128.specs.Values.{IsProduct, IsQuotient, IsDifference, PartsFit}
use Rattle.simplex_rows.specs.Entries.{IsLess, LessLeaves, QuotientLeaves}
use Rattle.simplex_spec.specs.Refusals.{IsFraction, NoFraction, DifferenceLeaves}
use Rattle.simplex.specs.Standing.{Stands}

positive : (n : ℕ) → 0 < n → pos n ≡ pos 0 → ⊥
positive n h e = omega (arith, ints)

not_zero : (d : ℤ) → pos 0 <ℤ d → d ≡ pos 0 → ⊥
not_zero d h e = omega (arith, ints)

-- a quotient: X d = a x, Y d = b y and X (q y) = (Q Y) x give Q b = a q
quotient_left : (Q b : ℤ) (x y : ℕ) → pos (x * y) *ℤ (Q *ℤ b) ≡ (Q *ℤ (b *ℤ pos y)) *ℤ pos x
quotient_left Q b x y = rw (is_diff Q, is_diff b) (simp (diffs, diff-pos) (diff_same _ _ _ _ (omega arith)))

quotient_mid : (Q Y d : ℤ) (x : ℕ) → (Q *ℤ (Y *ℤ d)) *ℤ pos x ≡ ((Q *ℤ Y) *ℤ pos x) *ℤ d
quotient_mid Q Y d x = rw (is_diff Q, is_diff Y, is_diff d) (simp (diffs, diff-pos) (diff_same _ _ _ _ (omega arith)))

quotient_turn : (X d : ℤ) (q y : ℕ) → (X *ℤ pos (q * y)) *ℤ d ≡ (X *ℤ d) *ℤ pos (q * y)
quotient_turn X d q y = rw (is_diff X, is_diff d) (simp (diffs, diff-pos) (diff_same _ _ _ _ (omega arith)))

quotient_right : (a : ℤ) (x y q : ℕ) → (a *ℤ pos x) *ℤ pos (q * y) ≡ pos (x * y) *ℤ (a *ℤ pos q)
quotient_right a x y q = rw (is_diff a) (simp (diffs, diff-pos) (diff_same _ _ _ _ (omega arith)))

pub quotient_stands : (d a b : ℤ) (x y q : Frac) → Stands d a x → Stands d b y → IsQuotient x y q → Stands b a q
quotient_stands d a b x y q i j e = record {
  is = cancelled (pos (x.den * y.den)) (q.num *ℤ b) (a *ℤ pos q.den) (positive _ (mul-pos x.lowest.positive y.lowest.positive))
      (quotient_left q.num b x.den y.den
      ∙ ap (λ (v : ℤ). (q.num *ℤ v) *ℤ pos x.den) (sym j.is)
      ∙ quotient_mid q.num y.num d x.den
      ∙ ap (λ (v : ℤ). v *ℤ d) (sym e)
      ∙ quotient_turn x.num d q.den y.den
      ∙ ap (λ (v : ℤ). v *ℤ pos (q.den * y.den)) i.is
      ∙ quotient_right a x.den y.den q.den);
}

-- a product: F d = b f, Q p = m q and P (f q) = (F Q) r give P (d p) = (b m) r
product_left : (P d p : ℤ) (f q : ℕ) → pos (f * q) *ℤ (P *ℤ (d *ℤ p)) ≡ (P *ℤ pos (f * q)) *ℤ (d *ℤ p)
product_left P d p f q = rw (is_diff P, is_diff d, is_diff p) (simp (diffs, diff-pos) (diff_same _ _ _ _ (omega arith)))

product_mid : (F Q d p : ℤ) (r : ℕ) → ((F *ℤ Q) *ℤ pos r) *ℤ (d *ℤ p) ≡ ((F *ℤ d) *ℤ (Q *ℤ p)) *ℤ pos r
product_mid F Q d p r = rw (is_diff F, is_diff Q, is_diff d, is_diff p) (simp (diffs, diff-pos) (diff_same _ _ _ _ (omega arith)))

product_right : (b m : ℤ) (f q r : ℕ) → ((b *ℤ pos f) *ℤ (m *ℤ pos q)) *ℤ pos r ≡ pos (f * q) *ℤ ((b *ℤ m) *ℤ pos r)
product_right b m f q r = rw (is_diff b, is_diff m) (simp (diffs, diff-pos) (diff_same _ _ _ _ (omega arith)))

pub product_stands : (d p b m : ℤ) (f q r : Frac) → Stands d b f → Stands p m q → IsProduct f q r → Stands (d *ℤ p) (b *ℤ m) r
product_stands d p b m f q r i j e = record {
  is = cancelled (pos (f.den * q.den)) (r.num *ℤ (d *ℤ p)) ((b *ℤ m) *ℤ pos r.den) (positive _ (mul-pos f.lowest.positive q.lowest.positive))
      (product_left r.num d p f.den q.den
      ∙ ap (λ (v : ℤ). v *ℤ (d *ℤ p)) e
      ∙ product_mid f.num q.num d p r.den
      ∙ ap (λ (v : ℤ). (v *ℤ (q.num *ℤ p)) *ℤ pos r.den) i.is
      ∙ ap (λ (v : ℤ). ((b *ℤ pos f.den) *ℤ v) *ℤ pos r.den) j.is
      ∙ product_right b m f.den q.den r.den);
}

-- the same over a greater number
wider : (X d p : ℤ) → X *ℤ (d *ℤ p) ≡ (X *ℤ d) *ℤ p
wider X d p = rw (is_diff X, is_diff d, is_diff p) (simp diffs (diff_same _ _ _ _ (omega arith)))

wider_right : (a p : ℤ) (x : ℕ) → (a *ℤ pos x) *ℤ p ≡ (a *ℤ p) *ℤ pos x
wider_right a p x = rw (is_diff a, is_diff p) (simp (diffs, diff-pos) (diff_same _ _ _ _ (omega arith)))

-- what has the parts of a fraction stands as it does
pub stands_with : (d n : ℤ) (x y : Frac) → y.num ≡ x.num → y.den ≡ x.den → Stands d n x → Stands d n y
stands_with d n x y e f s = let is : y.num *ℤ d ≡ n *ℤ pos y.den = rw (e, f) s.is in record { is = is }

pub stands_wider : (d p a : ℤ) (x : Frac) → Stands d a x → Stands (d *ℤ p) (a *ℤ p) x
stands_wider d p a x i = record { is = wider x.num d p ∙ ap (λ (v : ℤ). v *ℤ p) i.is ∙ wider_right a p x.den }

scaled_right : (Q d p m : ℤ) (q : ℕ) → Q *ℤ p ≡ m *ℤ pos q → Q *ℤ (d *ℤ p) ≡ (d *ℤ m) *ℤ pos q
scaled_right Q d p m q e = turn Q d p ∙ ap (λ (v : ℤ). d *ℤ v) e ∙ back d m q
  where
    turn : (Q d p : ℤ) → Q *ℤ (d *ℤ p) ≡ d *ℤ (Q *ℤ p)
    turn Q d p = rw (is_diff Q, is_diff d, is_diff p) (simp diffs (diff_same _ _ _ _ (omega arith)))

    back : (d m : ℤ) (q : ℕ) → d *ℤ (m *ℤ pos q) ≡ (d *ℤ m) *ℤ pos q
    back d m q = rw (is_diff d, is_diff m) (simp (diffs, diff-pos) (diff_same _ _ _ _ (omega arith)))

pub lead_stands : (d p m : ℤ) (q : Frac) → Stands p m q → Stands (d *ℤ p) (d *ℤ m) q
lead_stands d p m q i = record { is = scaled_right q.num d p m q.den i.is }

-- a difference: X D = u x, P D = v r and R (x r) = (X r - P x) s give R D = (u - v) s
minus_left : (R D : ℤ) (x r : ℕ) → pos (x * r) *ℤ (R *ℤ D) ≡ (R *ℤ pos (x * r)) *ℤ D
minus_left R D x r = rw (is_diff R, is_diff D) (simp (diffs, diff-pos) (diff_same _ _ _ _ (omega arith)))

minus_mid : (X P D : ℤ) (x r s : ℕ) → ((X *ℤ pos r -ℤ P *ℤ pos x) *ℤ pos s) *ℤ D ≡ ((X *ℤ D) *ℤ pos r -ℤ (P *ℤ D) *ℤ pos x) *ℤ pos s
minus_mid X P D x r s = rw (is_diff X, is_diff P, is_diff D) (simp (diffs, diff-pos) (diff_same _ _ _ _ (omega arith)))

minus_right : (u v : ℤ) (x r s : ℕ) → ((u *ℤ pos x) *ℤ pos r -ℤ (v *ℤ pos r) *ℤ pos x) *ℤ pos s ≡ pos (x * r) *ℤ ((u -ℤ v) *ℤ pos s)
minus_right u v x r s = rw (is_diff u, is_diff v) (simp (diffs, diff-pos) (diff_same _ _ _ _ (omega arith)))

pub difference_stands : (D u v : ℤ) (x p r : Frac) → Stands D u x → Stands D v p → IsDifference x p r → Stands D (u -ℤ v) r
difference_stands D u v x p r i j e = record {
  is = cancelled (pos (x.den * p.den)) (r.num *ℤ D) ((u -ℤ v) *ℤ pos r.den) (positive _ (mul-pos x.lowest.positive p.lowest.positive))
      (minus_left r.num D x.den p.den
      ∙ ap (λ (w : ℤ). w *ℤ D) e
      ∙ minus_mid x.num p.num D x.den p.den r.den
      ∙ ap (λ (w : ℤ). (w *ℤ pos p.den -ℤ (p.num *ℤ D) *ℤ pos x.den) *ℤ pos r.den) i.is
      ∙ ap (λ (w : ℤ). ((u *ℤ pos x.den) *ℤ pos p.den -ℤ w *ℤ pos x.den) *ℤ pos r.den) j.is
      ∙ minus_right u v x.den p.den r.den);
}

pub less_stands : (d p a b m : ℤ) (x f q r : Frac) → Stands d a x → Stands d b f → Stands p m q → IsLess x f q r → Stands (d *ℤ p) (a *ℤ p -ℤ b *ℤ m) r
less_stands d p a b m x f q r i j k e =
    difference_stands (d *ℤ p) (a *ℤ p) (b *ℤ m) x e.product r (stands_wider d p a x i) (product_stands d p b m f q e.product j k e.is_product) e.is_difference

-- a number that no fraction has
a_fraction : (n d : ℤ) (x : Frac) → Stands d n x → IsFraction n d x.num x.den
a_fraction n d x i = (x.lowest, i.is)

no_quotient_left : (X d : ℤ) (k y : ℕ) → d *ℤ (X *ℤ pos (k * y)) ≡ (X *ℤ d) *ℤ pos (k * y)
no_quotient_left X d k y = rw (is_diff X, is_diff d) (simp (diffs, diff-pos) (diff_same _ _ _ _ (omega arith)))

no_quotient_mid : (a : ℤ) (x y k : ℕ) → (a *ℤ pos x) *ℤ pos (k * y) ≡ (a *ℤ pos k) *ℤ pos (x * y)
no_quotient_mid a x y k = rw (is_diff a) (simp (diffs, diff-pos) (diff_same _ _ _ _ (omega arith)))

no_quotient_turn : (n b : ℤ) (x y : ℕ) → (n *ℤ b) *ℤ pos (x * y) ≡ (n *ℤ (b *ℤ pos y)) *ℤ pos x
no_quotient_turn n b x y = rw (is_diff n, is_diff b) (simp (diffs, diff-pos) (diff_same _ _ _ _ (omega arith)))

no_quotient_right : (n Y d : ℤ) (x : ℕ) → (n *ℤ (Y *ℤ d)) *ℤ pos x ≡ d *ℤ ((n *ℤ Y) *ℤ pos x)
no_quotient_right n Y d x = rw (is_diff n, is_diff Y, is_diff d) (simp (diffs, diff-pos) (diff_same _ _ _ _ (omega arith)))

pub no_quotient : (d a b : ℤ) (x y : Frac) → pos 0 <ℤ d → Stands d a x → Stands d b y → QuotientLeaves x y → NoFraction a b
no_quotient d a b x y h i j none n k f =
    none (record { num = n; den = k; lowest = f.0 })
    (cancelled d (x.num *ℤ pos (k * y.den)) ((n *ℤ y.num) *ℤ pos x.den) (not_zero d h)
    (no_quotient_left x.num d k y.den
    ∙ ap (λ (v : ℤ). v *ℤ pos (k * y.den)) i.is
    ∙ no_quotient_mid a x.den y.den k
    ∙ ap (λ (v : ℤ). v *ℤ pos (x.den * y.den)) (sym f.1)
    ∙ no_quotient_turn n b x.den y.den
    ∙ ap (λ (v : ℤ). (n *ℤ v) *ℤ pos x.den) (sym j.is)
    ∙ no_quotient_right n y.num d x.den))

-- F d = b f, Q p = m q and n (d p) = (b m) k give n (f q) = (F Q) k
no_product_left : (n d p : ℤ) (f q : ℕ) → (d *ℤ p) *ℤ (n *ℤ pos (f * q)) ≡ (n *ℤ (d *ℤ p)) *ℤ pos (f * q)
no_product_left n d p f q = rw (is_diff n, is_diff d, is_diff p) (simp (diffs, diff-pos) (diff_same _ _ _ _ (omega arith)))

no_product_mid : (b m : ℤ) (f q k : ℕ) → ((b *ℤ m) *ℤ pos k) *ℤ pos (f * q) ≡ ((b *ℤ pos f) *ℤ (m *ℤ pos q)) *ℤ pos k
no_product_mid b m f q k = rw (is_diff b, is_diff m) (simp (diffs, diff-pos) (diff_same _ _ _ _ (omega arith)))

no_product_right : (F Q d p : ℤ) (k : ℕ) → ((F *ℤ d) *ℤ (Q *ℤ p)) *ℤ pos k ≡ (d *ℤ p) *ℤ ((F *ℤ Q) *ℤ pos k)
no_product_right F Q d p k = rw (is_diff F, is_diff Q, is_diff d, is_diff p) (simp (diffs, diff-pos) (diff_same _ _ _ _ (omega arith)))

pub no_product : (d p b m : ℤ) (f q : Frac) → pos 0 <ℤ (d *ℤ p) → Stands d b f → Stands p m q → ((r : Frac) → IsProduct f q r → ⊥) → NoFraction (b *ℤ m) (d *ℤ p)
no_product d p b m f q h i j none n k e =
    none (record { num = n; den = k; lowest = e.0 })
    (cancelled (d *ℤ p) (n *ℤ pos (f.den * q.den)) ((f.num *ℤ q.num) *ℤ pos k) (not_zero (d *ℤ p) h)
    (no_product_left n d p f.den q.den
    ∙ ap (λ (v : ℤ). v *ℤ pos (f.den * q.den)) e.1
    ∙ no_product_mid b m f.den q.den k
    ∙ ap (λ (v : ℤ). (v *ℤ (m *ℤ pos q.den)) *ℤ pos k) (sym i.is)
    ∙ ap (λ (v : ℤ). ((f.num *ℤ d) *ℤ v) *ℤ pos k) (sym j.is)
    ∙ no_product_right f.num q.num d p k))

-- equal values have equal parts
cross : (n d a b : ℤ) (x y : ℕ) → a *ℤ d ≡ n *ℤ pos x → b *ℤ d ≡ n *ℤ pos y → d *ℤ (a *ℤ pos y) ≡ d *ℤ (b *ℤ pos x)
cross n d a b x y e f = turn a d y ∙ ap (λ (v : ℤ). v *ℤ pos y) e ∙ swap n x y ∙ ap (λ (v : ℤ). v *ℤ pos x) (sym f) ∙ sym (turn b d x)
  where
    turn : (a d : ℤ) (y : ℕ) → d *ℤ (a *ℤ pos y) ≡ (a *ℤ d) *ℤ pos y
    turn a d y = rw (is_diff a, is_diff d) (simp (diffs, diff-pos) (diff_same _ _ _ _ (omega arith)))

    swap : (n : ℤ) (x y : ℕ) → (n *ℤ pos x) *ℤ pos y ≡ (n *ℤ pos y) *ℤ pos x
    swap n x y = rw (is_diff n) (simp (diffs, diff-pos) (diff_same _ _ _ _ (omega arith)))

pub same_value : (d n : ℤ) (x y : Frac) → pos 0 <ℤ d → Stands d n x → Stands d n y → (x.num ≡ y.num) × (x.den ≡ y.den)
same_value d n x y h i j = same_parts x y (cancelled d (x.num *ℤ pos y.den) (y.num *ℤ pos x.den) (not_zero d h) (cross n d x.num y.num x.den y.den i.is j.is))

-- what leaves the range at a difference
some_lcm : (b f : ℕ) → 0 < f → (m : ℕ) × IsLcm b f m
some_lcm b f h = let g = through (b + f) b f 1 1 (omega arith) (one-dvd (b * 1)) (one-dvd (f * 1)) in (b / g.0 * f, is_lcm b f g.0 h g.1)

pub less_refused : (d p a b m : ℤ) (x f q : Frac) → pos 0 <ℤ d → pos 0 <ℤ (d *ℤ p) → Stands d a x → Stands d b f → Stands p m q → LessLeaves x f q
    → NoFraction (b *ℤ m) (d *ℤ p) ⊎ DifferenceLeaves a d (b *ℤ m) (d *ℤ p)
less_refused d p a b m x f q h k i j l (inl none) = inl (no_product d p b m f q k j l none)
less_refused d p a b m x f q h k i j l (inr (r, e, none)) =
    let c = some_lcm x.den r.den r.lowest.positive in
    inr (record {
      a = x.num;
      b = x.den;
      first = a_fraction a d x i;
      e = r.num;
      f = r.den;
      second = a_fraction (b *ℤ m) (d *ℤ p) r (product_stands d p b m f q r j l e);
      common = c.0;
      is_common = c.1;
      leaves = none c.0 c.1;
    })

-- a difference that is there does not leave it
pub product_is_there : (d p a b m : ℤ) (x f q r : Frac) → Stands d b f → Stands p m q → IsLess x f q r → NoFraction (b *ℤ m) (d *ℤ p) → ⊥
product_is_there d p a b m x f q r j l e none = none e.product.num e.product.den (a_fraction (b *ℤ m) (d *ℤ p) e.product (product_stands d p b m f q e.product j l e.is_product))

pub difference_is_there : (d p a b m : ℤ) (x f q r : Frac) → pos 0 <ℤ d → pos 0 <ℤ (d *ℤ p) → Stands d a x → Stands d b f → Stands p m q → IsLess x f q r → DifferenceLeaves a d (b *ℤ m) (d *ℤ p) → ⊥
difference_is_there d p a b m x f q r h k i j l e refused =
    let y : Frac = record { num = refused.a; den = refused.b; lowest = refused.first.0 } in
    let z : Frac = record { num = refused.e; den = refused.f; lowest = refused.second.0 } in
    let s = same_value d a x y h i (record { is = refused.first.1 }) in
    let u = same_value (d *ℤ p) (b *ℤ m) e.product z k (product_stands d p b m f q e.product j l e.is_product) (record { is = refused.second.1 }) in
    let lcm : IsLcm x.den e.product.den refused.common = rw (s.1, u.1) refused.is_common in
    let fits : PartsFit x.num x.den (neg_ℤ e.product.num) e.product.den refused.common = e.fits refused.common lcm in
    refused.leaves (rw (s.0, s.1, u.0, u.1) at fits)

pub quotient_is_there : (d a b : ℤ) (x y q : Frac) → Stands d a x → Stands d b y → IsQuotient x y q → NoFraction a b → ⊥
quotient_is_there d a b x y q i j e none = none q.num q.den (a_fraction a b q (quotient_stands d a b x y q i j e))
