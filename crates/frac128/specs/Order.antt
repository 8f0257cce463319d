-- The order of fractions by their values.
use Rattle.std.specs.Prelude.{◌≡◌, refl, ℕ, ◌*◌, ◌<◌, ℤ, pos, ◌*ℤ◌, ◌<ℤ◌, unsigned_abs, true, false, ◌==◌, ◌&&◌}
use Rattle.std.specs.Cmp.{IsTotalOrder, int_cmp_is}
use Rattle.std.specs.Ordering.{int_cmp, int_eq, is_eq, eq_by_cmp, eq_of_both, on}
use Rattle.std.specs.declared.cmp.Ordering.{Ordering}
use Rattle.std.specs.declared.cmp.Ordering.TheVariants.{Less, Equal, Greater}
use Rattle.std.proofs.Common.{sym, ap, ◌∙◌, arith}
use Rattle.std.proofs.lemmas.Cmp.{int_cmp_total, int_ranked}
use Rattle.std.proofs.lemmas.Int.{ints, unsigned_abs-mul}
use Rattle.std.proofs.lemmas.Bool.Decides.{nat_tests}
use lib.IntN.{*ℤ_comm}
use Rattle.raml_num.proofs.Differences.{diffs, diff-pos, is_diff, diff_same}
use Rattle.raml_num.proofs.Dividing.{lowest_unique}
use Rattle.raml_num.proofs.Signed.{cancelled, lt_mul, lt_cancel}
use Rattle.frac128.specs.declared.Frac.{Frac}

-- a/b and c/d compare as a d and c b do
abbrev pub order_of : Frac → Frac → Ordering
order_of x y = int_cmp (x.num *ℤ pos y.den) (y.num *ℤ pos x.den)

-- equal values have equal parts
pub same_parts : (x y : Frac) → x.num *ℤ pos y.den ≡ y.num *ℤ pos x.den → (x.num ≡ y.num) × (x.den ≡ y.den)
same_parts x y e =
    let m : unsigned_abs y.num * x.den ≡ unsigned_abs x.num * y.den = sym (unsigned_abs-mul y.num (pos x.den))
    ∙ ap unsigned_abs (sym e) ∙ unsigned_abs-mul x.num (pos y.den) in
    let d : x.den ≡ y.den = (lowest_unique (unsigned_abs x.num) x.den (unsigned_abs y.num) y.den x.lowest.coprime y.lowest.coprime m).1 in
    let n : x.num *ℤ pos y.den ≡ y.num *ℤ pos y.den = e ∙ ap (λ (v : ℕ). y.num *ℤ pos v) d in
    (cancelled (pos y.den) x.num y.num (not_zero y.den y.lowest.positive) (*ℤ_comm (pos y.den) x.num ∙ n ∙ *ℤ_comm y.num (pos y.den)), d)
  where
    not_zero : (n : ℕ) → 0 < n → pos n ≡ pos 0 → ⊥
    not_zero n h e = omega (arith, ints)

-- z (x y') < z (y x') and x (y z') < x (z y') give y (x z') < y (z x'), where a prime marks a denominator
along : (a c e : ℤ) (b d f : ℕ) → 0 < b → 0 < f → (a *ℤ pos d) <ℤ (c *ℤ pos b) → (c *ℤ pos f) <ℤ (e *ℤ pos d) → (a *ℤ pos f) <ℤ (e *ℤ pos b)
along a c e b d f bpos fpos h k =
    let p : (pos f *ℤ (a *ℤ pos d)) <ℤ (pos f *ℤ (c *ℤ pos b)) = lt_mul _ _ f fpos h in
    let q : (pos b *ℤ (c *ℤ pos f)) <ℤ (pos b *ℤ (e *ℤ pos d)) = lt_mul _ _ b bpos k in
    let i : pos f *ℤ (a *ℤ pos d) ≡ pos d *ℤ (a *ℤ pos f) = turn a d f in
    let j : pos f *ℤ (c *ℤ pos b) ≡ pos b *ℤ (c *ℤ pos f) = turn c b f in
    let l : pos b *ℤ (e *ℤ pos d) ≡ pos d *ℤ (e *ℤ pos b) = turn e d b in
    lt_cancel (a *ℤ pos f) (e *ℤ pos b) d (omega (arith, ints))
  where
    turn : (a : ℤ) (m n : ℕ) → pos n *ℤ (a *ℤ pos m) ≡ pos m *ℤ (a *ℤ pos n)
    turn a m n = rw (is_diff a) (simp (diffs, diff-pos) (diff_same _ _ _ _ (omega arith)))

pub order_is_total : IsTotalOrder order_of
order_is_total = record {
  antisymm = λ x y. int_cmp_total.antisymm (x.num *ℤ pos y.den) (y.num *ℤ pos x.den);
  trans = λ x y z p q.
      sym (int_cmp_is _ _ Less
      (along x.num y.num z.num x.den y.den z.den x.lowest.positive z.lowest.positive
      (int_ranked _ _ Less (sym p)) (int_ranked _ _ Less (sym q))));
  congr = λ x y z p. let e = same_parts x y (int_ranked (x.num *ℤ pos y.den) (y.num *ℤ pos x.den) Equal (sym p)) in rw (e.0, e.1) refl;
}

alike : (a c : ℤ) (b d : ℕ) → a ≡ c → b ≡ d → (int_eq a c && (b == d)) ≡ true
alike a c b d e f = grind (arith, nat_tests)

unlike : (a c : ℤ) (b d : ℕ) → (a ≡ c → b ≡ d → ⊥) → (int_eq a c && (b == d)) ≡ false
unlike a c b d n = grind (arith, nat_tests)

by_order : (x y : Frac) (o : Ordering) → o ≡ order_of x y → (int_eq x.num y.num && (x.den == y.den)) ≡ is_eq o
by_order x y Less p =
    let h : (x.num *ℤ pos y.den) <ℤ
    (y.num *ℤ pos x.den) = int_ranked _ _ Less p in unlike x.num y.num x.den y.den
    (λ e f. let g = rw (e, f) at h in omega (arith, ints))
by_order x y Equal p =
    let e = same_parts x y (int_ranked (x.num *ℤ pos y.den) (y.num *ℤ pos x.den) Equal p) in alike x.num y.num x.den y.den e.0 e.1
by_order x y Greater p =
    let h : (y.num *ℤ pos x.den) <ℤ
    (x.num *ℤ pos y.den) = int_ranked _ _ Greater p in unlike x.num y.num x.den y.den
    (λ e f. let g = rw (e, f) at h in omega (arith, ints))

-- and only equal parts have equal values
pub order_matches_eq : (x y : Frac) →
    eq_of_both (on (λ (f : Frac). f.num) int_eq) (on (λ (f : Frac). f.den) ◌==◌) x y ≡ eq_by_cmp order_of x y
order_matches_eq x y = by_order x y (order_of x y) refl
