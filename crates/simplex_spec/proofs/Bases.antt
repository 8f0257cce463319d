-- A pivot keeps that each row has its basis column.
use Rattle.std.proofs.Common.{◌≡◌, refl, sym, ap, ◌∙◌, ℕ, zero, suc, ◌<◌, ◌≢◌, ℤ, pos, ◌-ℤ◌, ◌*ℤ◌, arith, List, [], ◌∷◌, length, set, inl, inr}
use Rattle.std.proofs.lemmas.Int.{ints}
use Rattle.simplex_spec.specs.Places.{at, row_at}
use Rattle.simplex_spec.specs.Tableaux.{Tableau, pivot}
use Rattle.simplex_spec.proofs.Rows.{at-swept, at-scale, wide_at}
use Rattle.simplex_spec.proofs.Pivoting.{same_or_not, length_after, lead_after, row_after}
use Rattle.simplex_spec.proofs.Invariant.{Sound, Based, basis_at, AllBelow}

basis_here : (bs : List ℕ) (l c : ℕ) → l < length bs → basis_at (set bs l c) l ≡ c
basis_here [] l c h = absurd (omega arith)
basis_here (b ∷ bs) zero c h = refl
basis_here (b ∷ bs) (suc l) c h = basis_here bs l c (omega arith)

basis_there : (bs : List ℕ) (l c m : ℕ) → m ≢ l → basis_at (set bs l c) m ≡ basis_at bs m
basis_there [] l c m n = refl
basis_there (b ∷ bs) zero c zero n = absurd (n refl)
basis_there (b ∷ bs) zero c (suc m) n = refl
basis_there (b ∷ bs) (suc l) c zero n = refl
basis_there (b ∷ bs) (suc l) c (suc m) n = basis_there bs l c m (λ e. n (ap suc e))

pub below-set : (n : ℕ) (bs : List ℕ) (l c : ℕ) → AllBelow n bs → c < n → AllBelow n (set bs l c)
below-set n [] l c a h = tt
below-set n (b ∷ bs) zero c a h = (h, a.1)
below-set n (b ∷ bs) (suc l) c a h = (a.0, below-set n bs l c a.1 h)

pub gone : (x p f y : ℤ) → x ≡ pos 0 → y ≡ pos 0 → x *ℤ p -ℤ f *ℤ y ≡ pos 0
gone x p f y e g = rw (e, g) (omega (arith, ints))

itself : (f p : ℤ) → f *ℤ p -ℤ f *ℤ p ≡ pos 0
itself f p = omega (arith, ints)

kept : (d p f y : ℤ) → y ≡ pos 0 → d *ℤ p -ℤ f *ℤ y ≡ d *ℤ p
kept d p f y e = rw e (omega (arith, ints))

pub based : (n : ℕ) (opened : List (List ℤ)) (values : List ℤ) (slacks : List ℕ) (t : Tableau) (l c : ℕ) → Sound n opened values slacks t → Based t → l < length t.rows → Based (pivot l c t)
based n opened values slacks t l c k b inside =
    let lead : List ℤ = row_at t.rows l in
    let p : ℤ = at lead c in
    let long : length lead ≡ n = wide_at n l t.rows k.wide inside in
    let gains_long : length t.gains ≡ length lead = k.gains_wide ∙ sym long in
    let inb : l < length t.basis = (let q = k.one_each in omega arith) in
    let wide : (i : ℕ) → i < length t.rows → length (row_at t.rows i) ≡ length lead = λ i j. wide_at n i t.rows k.wide j ∙ sym long in
    let len = length_after t l c inside in
    record {
      own = λ i j. let i' : i < length t.rows = omega arith in elim (same_or_not i l) [
        | inl g ↦ rw (g, lead_after t l c inside, basis_here t.basis l c inb) (at-scale t.over lead c)
        | inr g ↦ rw (row_after t l c inside i i' g, basis_there t.basis l c i g, at-swept p (at (row_at t.rows i) c) (row_at t.rows i) lead (basis_at t.basis i) (wide i i'), b.own i i')
            (kept t.over p (at (row_at t.rows i) c) (at lead (basis_at t.basis i)) (b.other l i inside i' (λ q. g (sym q))))
      ];
      other = λ i m j g n. let i' : i < length t.rows = omega arith in let m' : m < length t.rows = omega arith in elim (same_or_not m l) [
        | inl q ↦ let r : i ≢ l = (λ z. n (z ∙ sym q)) in
            rw (q, row_after t l c inside i i' r, basis_here t.basis l c inb, at-swept p (at (row_at t.rows i) c) (row_at t.rows i) lead c (wide i i')) (itself (at (row_at t.rows i) c) p)
        | inr q ↦ elim (same_or_not i l) [
          | inl r ↦ rw (r, lead_after t l c inside, basis_there t.basis l c m q, at-scale t.over lead (basis_at t.basis m), b.other l m inside m' (λ z. q (sym z))) (omega (arith, ints))
          | inr r ↦ rw (row_after t l c inside i i' r, basis_there t.basis l c m q, at-swept p (at (row_at t.rows i) c) (row_at t.rows i) lead (basis_at t.basis m) (wide i i'))
              (gone (at (row_at t.rows i) (basis_at t.basis m)) p (at (row_at t.rows i) c) (at lead (basis_at t.basis m)) (b.other i m i' m' n) (b.other l m inside m' (λ z. q (sym z))))
        ]
      ];
      still = λ m g. let m' : m < length t.rows = omega arith in elim (same_or_not m l) [
        | inl q ↦ rw (q, basis_here t.basis l c inb, at-swept p (at t.gains c) t.gains lead c gains_long) (itself (at t.gains c) p)
        | inr q ↦ rw (basis_there t.basis l c m q, at-swept p (at t.gains c) t.gains lead (basis_at t.basis m) gains_long)
            (gone (at t.gains (basis_at t.basis m)) p (at t.gains c) (at lead (basis_at t.basis m)) (b.still m m') (b.other l m inside m' (λ z. q (sym z))))
      ];
    }
