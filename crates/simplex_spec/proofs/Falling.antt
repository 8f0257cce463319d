-- The gains fall at each pivot, and a basis fixes them.
use Rattle.std.proofs.Common.{◌≡◌, refl, sym, ap, subst, ◌∙◌, ℕ, zero, suc, ◌<◌, ◌≢◌, Bool, true, false, cond, nat_eq, ℤ, pos, ◌+ℤ◌, ◌-ℤ◌, ◌*ℤ◌, ◌<ℤ◌, arith, List, [], ◌∷◌, length, inl, inr}
use Rattle.std.proofs.lemmas.Int.{ints}
use Rattle.std.proofs.lemmas.Bool.Decides.{nat_tests}
use Rattle.raml_num.proofs.Differences.{diffs, is_diff, diff_same}
use Rattle.linear_rows.specs.Vectors.{dot, scale, plus, mix, AllWide}
use Rattle.simplex_spec.specs.Places.{at, row_at, at_each, column, swept}
use Rattle.simplex_spec.specs.Tableaux.{Tableau, pivot}
use Rattle.simplex_spec.proofs.Rows.{at-swept, at-mix, dot-swept, length-swept, length-at_each, wide_at}
use Rattle.simplex_spec.proofs.Pivoting.{above, same_or_not}
use Rattle.simplex_spec.proofs.Ordered.{AllZero, cancel, lex_scale, lex_unscale, lex_plus, not_zero, dot-zero}
use Rattle.simplex_spec.proofs.Invariant.{Sound, Based, basis_at, LexPositive, AllBelow}

-- in the columns cs, the gains of t over its number come lexicographically after those of u over its own
pub record Falls (cs : List ℕ) (t u : Tableau) : Type 0 where
  pub falls : LexPositive (swept u.over t.over (at_each t.gains cs) (at_each u.gains cs))

falls_by : (g d p f y : ℤ) → g *ℤ (d *ℤ p) -ℤ d *ℤ (g *ℤ p -ℤ f *ℤ y) ≡ (d *ℤ f) *ℤ y
falls_by g d p f y = rw (is_diff g, is_diff d, is_diff p, is_diff f, is_diff y) (simp diffs (diff_same _ _ _ _ (omega arith)))

falls_list : (d p f : ℤ) (gains lead : List ℤ) (cs : List ℕ) → length gains ≡ length lead
    → swept (d *ℤ p) d (at_each gains cs) (at_each (swept p f gains lead) cs) ≡ scale (d *ℤ f) (at_each lead cs)
falls_list d p f gains lead [] e = refl
falls_list d p f gains lead (c ∷ cs) e = rw (at-swept p f gains lead c e, falls_by (at gains c) d p f (at lead c), falls_list d p f gains lead cs e) refl

-- by a positive multiple of the leaving row
pub falls_once : (n : ℕ) (opened : List (List ℤ)) (values : List ℤ) (slacks : List ℕ) (cs : List ℕ) (t : Tableau) (l c : ℕ) → Sound n opened values slacks t → l < length t.rows
    → pos 0 <ℤ at t.gains c → LexPositive (at_each (row_at t.rows l) cs) → Falls cs t (pivot l c t)
falls_once n opened values slacks cs t l c k h g w =
    let long : length t.gains ≡ length (row_at t.rows l) = k.gains_wide ∙ sym (wide_at n l t.rows k.wide h) in
    let P : List ℤ → Type 0 = LexPositive in
    record { falls = subst P (sym (falls_list t.over (at (row_at t.rows l) c) (at t.gains c) t.gains (row_at t.rows l) cs long)) (lex_scale (t.over *ℤ at t.gains c) (at_each (row_at t.rows l) cs) (above t.over (at t.gains c) k.positive g) w) }

join : (x y z a b c : ℤ) → b *ℤ (x *ℤ c -ℤ a *ℤ z) ≡ c *ℤ (x *ℤ b -ℤ a *ℤ y) +ℤ a *ℤ (y *ℤ c -ℤ b *ℤ z)
join x y z a b c = rw (is_diff x, is_diff y, is_diff z, is_diff a, is_diff b, is_diff c) (simp diffs (diff_same _ _ _ _ (omega arith)))

join_lists : (x y z : List ℤ) (a b c : ℤ) (cs : List ℕ)
    → scale b (swept c a (at_each x cs) (at_each z cs)) ≡ plus (scale c (swept b a (at_each x cs) (at_each y cs))) (scale a (swept c b (at_each y cs) (at_each z cs)))
join_lists x y z a b c [] = refl
join_lists x y z a b c (i ∷ cs) = rw (join (at x i) (at y i) (at z i) a b c, join_lists x y z a b c cs) refl

same_length : (x y z : List ℤ) (a b c : ℤ) (cs : List ℕ) → length (scale c (swept b a (at_each x cs) (at_each y cs))) ≡ length (scale a (swept c b (at_each y cs) (at_each z cs)))
same_length x y z a b c [] = refl
same_length x y z a b c (i ∷ cs) = omega (arith, same_length x y z a b c cs)

pub falls_on : (cs : List ℕ) (t u v : Tableau) → pos 0 <ℤ t.over → pos 0 <ℤ u.over → pos 0 <ℤ v.over → Falls cs t u → Falls cs u v → Falls cs t v
falls_on cs t u v a b c f g =
    let P : List ℤ → Type 0 = LexPositive in
    record {
      falls = lex_unscale u.over _ b (subst P (sym (join_lists t.gains u.gains v.gains t.over u.over v.over cs))
          (lex_plus _ _ (same_length t.gains u.gains v.gains t.over u.over v.over cs) (lex_scale v.over _ c f.falls) (lex_scale t.over _ a g.falls)));
    }

-- two gains with one basis are the same
apart : (d D v g G a b : ℤ) → g ≡ d *ℤ v +ℤ a → G ≡ D *ℤ v +ℤ b → a *ℤ D -ℤ d *ℤ b ≡ g *ℤ D -ℤ d *ℤ G
apart d D v g G a b e f = rw (e, f, is_diff d, is_diff D, is_diff v, is_diff a, is_diff b) (simp diffs (diff_same _ _ _ _ (omega arith)))

both_zero : (d D : ℤ) (m g G : List ℤ) (bs : List ℕ) → ((c : ℕ) → at m c ≡ at g c *ℤ D -ℤ d *ℤ at G c) → AllZero (at_each g bs) → AllZero (at_each G bs) → AllZero (at_each m bs)
both_zero d D m g G [] h p q = tt
both_zero d D m g G (b ∷ bs) h p q = (h b ∙ rw (p.0, q.0) (omega (arith, ints)), both_zero d D m g G bs h p.1 q.1)

basis_fixes : (n : ℕ) (opened : List (List ℤ)) (values : List ℤ) (slacks : List ℕ) (t u : Tableau) → AllWide n opened → length slacks ≡ length opened
    → Sound n opened values slacks t → Sound n opened values slacks u → AllZero (at_each t.gains t.basis) → AllZero (at_each u.gains t.basis)
    → (c : ℕ) → at t.gains c *ℤ u.over -ℤ t.over *ℤ at u.gains c ≡ pos 0
basis_fixes n opened values slacks t u w s k l p q c =
    let m : List ℤ = swept u.over t.over (at_each t.gains slacks) (at_each u.gains slacks) in
    let j : length (at_each t.gains slacks) ≡ length (at_each u.gains slacks) = length-at_each t.gains slacks ∙ sym (length-at_each u.gains slacks) in
    let long : length m ≡ length opened = length-swept u.over t.over (at_each t.gains slacks) (at_each u.gains slacks) j ∙ length-at_each t.gains slacks ∙ s in
    let is : (i : ℕ) → at (mix n m opened) i ≡ at t.gains i *ℤ u.over -ℤ t.over *ℤ at u.gains i = λ i.
    at-mix n i m opened w ∙ (dot-swept u.over t.over (at_each t.gains slacks) (at_each u.gains slacks) (column i opened) j
    ∙ apart t.over u.over (at values i) (at t.gains i) (at u.gains i) (dot (at_each t.gains slacks) (column i opened)) (dot (at_each u.gains slacks) (column i opened)) (k.gained i) (l.gained i)) in
    let z = both_zero t.over u.over (mix n m opened) t.gains u.gains t.basis is p q in
    sym (is c) ∙ cancel t.over (at (mix n m opened) c) k.positive (k.spans m c long ∙ dot-zero (at_each (mix n m opened) t.basis) (column c t.rows) z)

-- which of the columns below n are in the basis
abbrev pub has : ℕ → List ℕ → Bool
has i [] = false
has i (b ∷ bs) = cond (nat_eq b i) true (has i bs)

abbrev pub basis_set : ℕ → List ℕ → List Bool
basis_set zero bs = []
basis_set (suc n) bs = has n bs ∷ basis_set n bs

pub length-basis_set : (n : ℕ) (bs : List ℕ) → length (basis_set n bs) ≡ n
length-basis_set zero bs = refl
length-basis_set (suc n) bs = omega (arith, length-basis_set n bs)

zero_list : (d D : ℤ) (g G : List ℤ) (cs : List ℕ) → ((c : ℕ) → at g c *ℤ D -ℤ d *ℤ at G c ≡ pos 0) → AllZero (swept D d (at_each g cs) (at_each G cs))
zero_list d D g G [] h = tt
zero_list d D g G (c ∷ cs) h = (h c, zero_list d D g G cs h)

all_still : (g : List ℤ) (bs : List ℕ) → ((m : ℕ) → m < length bs → at g (basis_at bs m) ≡ pos 0) → AllZero (at_each g bs)
all_still g [] h = tt
all_still g (b ∷ bs) h = (h 0 (omega arith), all_still g bs (λ m q. h (suc m) (omega arith)))

at_has : (g : List ℤ) (bs : List ℕ) (i : ℕ) → AllZero (at_each g bs) → has i bs ≡ true → at g i ≡ pos 0
at_has g [] i z h = absurd (cc)
at_has g (b ∷ bs) i z h = elim (same_or_not b i) [
  | inl e ↦ ap (at g) (sym e) ∙ z.0
  | inr e ↦ at_has g bs i z.1 (let q : nat_eq b i ≡ false = grind (arith, nat_tests) in (sym (rw q refl) ∙ h))
]

set_has : (n i : ℕ) (bs cs : List ℕ) → basis_set n bs ≡ basis_set n cs → i < n → has i bs ≡ true → has i cs ≡ true
set_has zero i bs cs e h q = absurd (omega arith)
set_has (suc n) i bs cs e h q =
    let head : has n bs ≡ has n cs = cc in
    let tail : basis_set n bs ≡ basis_set n cs = cc in
    elim (same_or_not i n) [ inl z ↦ rw z (sym head ∙ rw z at q) | inr z ↦ set_has n i bs cs tail (omega arith) q ]

has_first : (b : ℕ) (bs : List ℕ) → has b (b ∷ bs) ≡ true
has_first b bs = let q : nat_eq b b ≡ true = grind (arith, nat_tests) in rw q refl

has_later : (b i : ℕ) (bs : List ℕ) → has i bs ≡ true → has i (b ∷ bs) ≡ true
has_later b i bs h = elim (nat_eq b i) as (λ v. cond v true (has i bs) ≡ true) [ true ↦ refl | false ↦ h ]

carried : (n : ℕ) (g : List ℤ) (bs cs : List ℕ) → AllZero (at_each g cs) → AllBelow n bs → ((i : ℕ) → i < n → has i bs ≡ true → has i cs ≡ true) → AllZero (at_each g bs)
carried n g [] cs z w h = tt
carried n g (b ∷ bs) cs z w h = (at_has g cs b z (h b w.0 (has_first b bs)), carried n g bs cs z w.1 (λ i j q. h i j (has_later b i bs q)))

-- gains that have fallen have another basis
pub another : (n m : ℕ) (opened : List (List ℤ)) (values : List ℤ) (slacks cs : List ℕ) (t u : Tableau) → AllWide n opened → length slacks ≡ length opened
    → Sound n opened values slacks t → Sound n opened values slacks u → Based t → Based u → AllBelow m t.basis → Falls cs t u → basis_set m t.basis ≢ basis_set m u.basis
another n m opened values slacks cs t u w s k l b c below f same =
    let zt = all_still t.gains t.basis (λ m q. b.still m (let r = k.one_each in omega arith)) in
    let zu = all_still u.gains u.basis (λ m q. c.still m (let r = l.one_each in omega arith)) in
    let zut = carried m u.gains t.basis u.basis zu below (λ i j q. set_has m i t.basis u.basis same j q) in
    not_zero _ f.falls (zero_list t.over u.over t.gains u.gains cs (basis_fixes n opened values slacks t u w s k l zt zut))
