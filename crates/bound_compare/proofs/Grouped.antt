-- Parts in order, added up where they have the same exponents.
use Rattle.std.proofs.Common.{◌≡◌, ◌≢◌, ◌≤◌, ◌+◌, ◌==◌, ℕ, ℤ, pos, ◌-ℤ◌, Bool, true, false, cond, List, [], ◌∷◌, map, All, refl, sym, ap, ◌∙◌, subst, arith}
use Rattle.std.specs.declared.cmp.Ordering.{Ordering}
use Rattle.std.specs.declared.cmp.Ordering.TheVariants.{Less, Equal, Greater}
use Rattle.std.specs.Ordering.{is_eq, is_gt}
use Rattle.std.specs.Str.{bytes_eq}
use Rattle.std.proofs.lemmas.Bool.{eqb-true, eqb-false}
use Rattle.std.proofs.lemmas.Int.{ints}
use Rattle.std.proofs.lemmas.List.Elements.{All-nil, All-cons, All-head, All-tail}
use Rattle.std.proofs.lemmas.Slice.Eq.{bytes_eq-Decides}
use Rattle.base_poly.specs.Indices.{IsBefore, Ascends}
use Rattle.base_poly.specs.Base.{total}
use Rattle.bound_compare.specs.Order.{exponents_total, tied_exponents}
use Rattle.bound_compare.specs.Powers.{exponent_order, listed_at}
use Rattle.bound_compare.specs.Steps.{Part, capped, both, leads, joined, numbers}

-- one side of totals at the exponents
abbrev pub at : (ℕ × ℕ → ℕ) → List ℕ → List Part → ℕ
at side es ps = total (λ p. cond (bytes_eq es p.0) (side p.1) 0) ps

abbrev pub up : ℕ × ℕ → ℕ
up c = c.0

abbrev pub down : ℕ × ℕ → ℕ
down c = c.1

pub record IsSide (side : ℕ × ℕ → ℕ) : Type 0 where
  pub none : side (0, 0) ≡ 0
  pub sum : (c d : ℕ × ℕ) → side (both c d) ≡ capped (side c + side d)

pub up_is : IsSide up
up_is = record { none = refl; sum = λ c d. refl }

pub down_is : IsSide down
down_is = record { none = refl; sum = λ c d. refl }

-- each is behind the exponents, or not before them
abbrev pub Behind : List ℕ → List Part → Type 0
Behind k [] = Unit {0}
Behind k (p ∷ ps) = (exponent_order k p.0 ≡ Less) × Behind k ps

abbrev pub UpTo : List ℕ → List Part → Type 0
UpTo k [] = Unit {0}
UpTo k (p ∷ ps) = (is_gt (exponent_order k p.0) ≡ false) × UpTo k ps

abbrev pub Rises : List Part → Type 0
Rises [] = Unit {0}
Rises (p ∷ ps) = UpTo p.0 ps × Rises ps

same_from : (es fs : List ℕ) → bytes_eq es fs ≡ true → es ≡ fs
same_from es fs = (bytes_eq-Decides es fs).0

differ : (k j : List ℕ) → exponent_order k j ≡ Less → bytes_eq k j ≡ false
differ k j e = tied_exponents k j ∙ ap is_eq e

less_then : (k j : List ℕ) (ps : List Part) → exponent_order k j ≡ Less → UpTo j ps → Behind k ps
less_then k j [] e h = tt
less_then k j (p ∷ ps) e h = (here (exponent_order j p.0) refl h.0, less_then k j ps e h.1)
  where
    here : (o : Ordering) → exponent_order j p.0 ≡ o → is_gt o ≡ false → exponent_order k p.0 ≡ Less
    here Less f g = exponents_total.trans k j p.0 e f
    here Equal f g = ap (exponent_order k) (sym (same_from j p.0 (tied_exponents j p.0 ∙ ap is_eq f))) ∙ e
    here Greater f g = absurd (no (sym g))
      where
        no : false ≡ true → ⊥
        no q = cc

head_less : (k : List ℕ) (ps : List Part) → leads k ps ≡ false → UpTo k ps → Rises ps → Behind k ps
head_less k [] e h r = tt
head_less k (p ∷ ps) e h r = let less = here (exponent_order k p.0) refl h.0 in (less, less_then k p.0 ps less r.0)
  where
    here : (o : Ordering) → exponent_order k p.0 ≡ o → is_gt o ≡ false → exponent_order k p.0 ≡ Less
    here Less f g = f
    here Equal f g = absurd (no (sym e ∙ tied_exponents k p.0 ∙ ap is_eq f))
      where
        no : false ≡ true → ⊥
        no q = cc
    here Greater f g = absurd (no (sym g))
      where
        no : false ≡ true → ⊥
        no q = cc

none_behind : (side : ℕ × ℕ → ℕ) (k : List ℕ) (ps : List Part) → Behind k ps → at side k ps ≡ 0
none_behind side k [] h = refl
none_behind side k (p ∷ ps) h = (λ i. cond (differ k p.0 h.0 i) (side p.1) 0 + none_behind side k ps h.1 i)

joined_behind : (k : List ℕ) (c : ℕ × ℕ) (ps : List Part) → Behind k ps → Behind k (joined c ps)
joined_behind k c [] h = tt
joined_behind k c (p ∷ ps) h = by (joined_behind k (both c p.1) ps h.1) (joined_behind k (0, 0) ps h.1) (leads p.0 ps)
  where
    by : Behind k (joined (both c p.1) ps) → Behind k (joined (0, 0) ps) → (b : Bool) → Behind k (cond b (joined (both c p.1) ps) ((p.0, both c p.1) ∷ joined (0, 0) ps))
    by f g true = f
    by f g false = (h.0, g)

module _ (side : ℕ × ℕ → ℕ) (is : IsSide side) (es : List ℕ) where
  -- what the first of the parts is joined with counts too
  joined_at : (c : ℕ × ℕ) (x : Part) (xs : List Part) → Rises (x ∷ xs) → at side es (joined c (x ∷ xs)) ≡ capped (cond (bytes_eq es x.0) (side c) 0 + at side es (x ∷ xs))
  joined_at c x [] r = by (bytes_eq es x.0)
    where
      by : (b : Bool) → cond b (side (both c x.1)) 0 + 0 ≡ capped (cond b (side c) 0 + (cond b (side x.1) 0 + 0))
      by true = let sum = is.sum c x.1 in omega (arith, sum)
      by false = omega arith
  joined_at c x (y ∷ ys) r = on (joined_at (both c x.1) y ys r.1) (joined_at (0, 0) y ys r.1) (bytes_eq x.0 y.0) refl
    where
      alone : side (both c x.1) ≡ capped (side c + side x.1)
      alone = is.sum c x.1

      on : at side es (joined (both c x.1) (y ∷ ys)) ≡ capped (cond (bytes_eq es y.0) (side (both c x.1)) 0 + at side es (y ∷ ys)) →
          at side es (joined (0, 0) (y ∷ ys)) ≡ capped (cond (bytes_eq es y.0) (side (0, 0)) 0 + at side es (y ∷ ys)) →
          (l : Bool) → bytes_eq x.0 y.0 ≡ l →
          at side es (cond l (joined (both c x.1) (y ∷ ys)) ((x.0, both c x.1) ∷ joined (0, 0) (y ∷ ys))) ≡ capped (cond (bytes_eq es x.0) (side c) 0 + at side es (x ∷ y ∷ ys))
      on with_it anew true e =
          with_it ∙ ap (λ k. capped (cond (bytes_eq es k) (side (both c x.1)) 0 + at side es (y ∷ ys))) (sym (same_from x.0 y.0 e)) ∙ by (bytes_eq es x.0) (at side es (y ∷ ys))
        where
          by : (b : Bool) (n : ℕ) → capped (cond b (side (both c x.1)) 0 + n) ≡ capped (cond b (side c) 0 + (cond b (side x.1) 0 + n))
          by true n = let sum = alone in omega (arith, sum)
          by false n = omega arith
      on with_it anew false e = by (bytes_eq es x.0) refl
        where
          behind : Behind x.0 (y ∷ ys)
          behind = head_less x.0 (y ∷ ys) e r.0 r.1

          by : (b : Bool) → bytes_eq es x.0 ≡ b → cond b (side (both c x.1)) 0 + at side es (joined (0, 0) (y ∷ ys)) ≡ capped (cond b (side c) 0 + (cond b (side x.1) 0 + at side es (y ∷ ys)))
          by true q =
              let same = sym (same_from es x.0 q) in
              let none = subst (λ k. at side k (y ∷ ys) ≡ 0) same (none_behind side x.0 (y ∷ ys) behind) in
              let later = subst (λ k. at side k (joined (0, 0) (y ∷ ys)) ≡ 0) same (none_behind side x.0 (joined (0, 0) (y ∷ ys)) (joined_behind x.0 (0, 0) (y ∷ ys) behind)) in
              let sum = alone in
              omega (arith, none, later, sum)
          by false q = omega (arith, anew ∙ nothing (bytes_eq es y.0))
            where
              nothing : (b : Bool) → capped (cond b (side (0, 0)) 0 + at side es (y ∷ ys)) ≡ capped (at side es (y ∷ ys))
              nothing true = let zero = is.none in omega (arith, zero)
              nothing false = omega arith

  pub joined_sums : (ps : List Part) → Rises ps → at side es (joined (0, 0) ps) ≡ capped (at side es ps)
  joined_sums [] r = omega arith
  joined_sums (x ∷ xs) r = joined_at (0, 0) x xs r ∙ nothing (bytes_eq es x.0)
    where
      nothing : (b : Bool) → capped (cond b (side (0, 0)) 0 + at side es (x ∷ xs)) ≡ capped (at side es (x ∷ xs))
      nothing true = let zero = is.none in omega (arith, zero)
      nothing false = omega arith

-- the sums ascend

abbrev pub Climbs : List Part → Type 0
Climbs [] = Unit {0}
Climbs (g ∷ gs) = Behind g.0 gs × Climbs gs

pub joined_climb : (c : ℕ × ℕ) (ps : List Part) → Rises ps → Climbs (joined c ps)
joined_climb c [] r = tt
joined_climb c (p ∷ ps) r = by (joined_climb (both c p.1) ps r.1) (joined_climb (0, 0) ps r.1) (leads p.0 ps) refl
  where
    by : Climbs (joined (both c p.1) ps) → Climbs (joined (0, 0) ps) → (b : Bool) → leads p.0 ps ≡ b → Climbs (cond b (joined (both c p.1) ps) ((p.0, both c p.1) ∷ joined (0, 0) ps))
    by f g true e = f
    by f g false e = (joined_behind p.0 (0, 0) ps (head_less p.0 ps e r.0 r.1), g)

numbers_behind : (k : List ℕ) (gs : List Part) → Behind k gs → IsBefore exponent_order k (map (λ p. p.0) (numbers gs))
numbers_behind k [] h = tt
numbers_behind k (g ∷ gs) h = by (numbers_behind k gs h.1) (g.1.0 == g.1.1)
  where
    by : IsBefore exponent_order k (map (λ p. p.0) (numbers gs)) → (b : Bool) → IsBefore exponent_order k (map (λ p. p.0) (cond b (numbers gs) ((g.0, pos g.1.0 -ℤ pos g.1.1) ∷ numbers gs)))
    by f true = f
    by f false = (h.0, f)

pub numbers_ascend : (gs : List Part) → Climbs gs → Ascends exponent_order (map (λ p. p.0) (numbers gs))
numbers_ascend [] h = tt
numbers_ascend (g ∷ gs) h = by (numbers_ascend gs h.1) (g.1.0 == g.1.1)
  where
    by : Ascends exponent_order (map (λ p. p.0) (numbers gs)) → (b : Bool) → Ascends exponent_order (map (λ p. p.0) (cond b (numbers gs) ((g.0, pos g.1.0 -ℤ pos g.1.1) ∷ numbers gs)))
    by f true = f
    by f false = (numbers_behind g.0 gs h.0, f)

abbrev pub IsNonzero : List ℕ × ℤ → Type 0
IsNonzero p = p.1 ≢ pos 0

pub numbers_nonzero : (gs : List Part) → All IsNonzero (numbers gs)
numbers_nonzero [] = All-nil IsNonzero
numbers_nonzero (g ∷ gs) = by (numbers_nonzero gs) (g.1.0 == g.1.1) refl
  where
    by : All IsNonzero (numbers gs) → (b : Bool) → (g.1.0 == g.1.1) ≡ b → All IsNonzero (cond b (numbers gs) ((g.0, pos g.1.0 -ℤ pos g.1.1) ∷ numbers gs))
    by f true e = f
    by f false e = All-cons IsNonzero (g.0, pos g.1.0 -ℤ pos g.1.1) (numbers gs) (λ z. eqb-false g.1.0 g.1.1 e (omega (arith, ints, z))) f

pub numbers_at : (es : List ℕ) (gs : List Part) → Climbs gs → listed_at es (numbers gs) ≡ pos (at up es gs) -ℤ pos (at down es gs)
numbers_at es [] h = refl
numbers_at es (g ∷ gs) h = by (numbers_at es gs h.1) (g.1.0 == g.1.1) refl
  where
    by : listed_at es (numbers gs) ≡ pos (at up es gs) -ℤ pos (at down es gs) → (b : Bool) → (g.1.0 == g.1.1) ≡ b →
        listed_at es (cond b (numbers gs) ((g.0, pos g.1.0 -ℤ pos g.1.1) ∷ numbers gs)) ≡ pos (at up es (g ∷ gs)) -ℤ pos (at down es (g ∷ gs))
    by f true e = f ∙ on (bytes_eq es g.0)
      where
        on : (b : Bool) → pos (at up es gs) -ℤ pos (at down es gs) ≡ pos (cond b g.1.0 0 + at up es gs) -ℤ pos (cond b g.1.1 0 + at down es gs)
        on true = let same = eqb-true g.1.0 g.1.1 e in omega (arith, ints, same)
        on false = omega (arith, ints)
    by f false e = on (bytes_eq es g.0) refl
      where
        on : (b : Bool) → bytes_eq es g.0 ≡ b → cond b (pos g.1.0 -ℤ pos g.1.1) (listed_at es (numbers gs)) ≡ pos (cond b g.1.0 0 + at up es gs) -ℤ pos (cond b g.1.1 0 + at down es gs)
        on true q =
            let same = sym (same_from es g.0 q) in
            let ups = subst (λ k. at up k gs ≡ 0) same (none_behind up g.0 gs h.0) in
            let downs = subst (λ k. at down k gs ≡ 0) same (none_behind down g.0 gs h.0) in
            omega (arith, ints, ups, downs)
        on false q = omega (arith, ints, f)

-- the sum at exponents is one of the sums, or 0
pub at_most_one : (side : ℕ × ℕ → ℕ) (n : ℕ) (es : List ℕ) (gs : List Part) → Climbs gs → All (λ g. side g.1 ≤ n) gs → at side es gs ≤ n
at_most_one side n es [] h a = omega arith
at_most_one side n es (g ∷ gs) h a = on (at_most_one side n es gs h.1 (All-tail (λ g. side g.1 ≤ n) g gs a)) (bytes_eq es g.0) refl
  where
    on : at side es gs ≤ n → (b : Bool) → bytes_eq es g.0 ≡ b → cond b (side g.1) 0 + at side es gs ≤ n
    on f true q =
        let none = subst (λ k. at side k gs ≡ 0) (sym (same_from es g.0 q)) (none_behind side g.0 gs h.0) in
        let first = All-head (λ g. side g.1 ≤ n) g gs a in
        omega (arith, none, first)
    on f false q = omega (arith, f)
