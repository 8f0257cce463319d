-- What every course keeps, and that it ends.
use Rattle.std.proofs.Common.{◌≡◌, ◌≢◌, refl, sym, ap, subst, ◌∙◌, ℕ, ◌+◌, ◌^◌, ◌≤◌, ◌<◌, Bool, true, false, ℤ, ◌*ℤ◌, arith, List, [], ◌∷◌, length, inl, inr}
use Rattle.std.proofs.lemmas.Int.{ints}
use lib.IntN.{*ℤ_comm}
use Rattle.linear_rows.specs.Systems.{LinearSystem, IsSystem}
use Rattle.linear_rows.specs.Vectors.{scale}
use Rattle.simplex_spec.specs.Places.{at, row_at, at_each, swept}
use Rattle.simplex_spec.specs.Tableaux.{Tableau, opening, pivot, right, slacks, compared, Exits, LexAtMost}
use Rattle.simplex_spec.specs.Courses.{IsPivot, Leads, Course}
use Rattle.simplex_spec.proofs.Invariant.{Sound, Based, RowsPositive, AllBelow}
use Rattle.simplex_spec.proofs.Rows.{at_each-swept, length-at_each, wide_at}
use Rattle.simplex_spec.proofs.Pivoting.{keeps, same_or_not, length_after, row_after}
use Rattle.simplex_spec.proofs.Opening.{width, opened, values, opening_sound, opening_based, opening_positive, wide_opened, length-opened, below-counted, length-counted}
use Rattle.simplex_spec.proofs.Bases.{based, below-set}
use Rattle.simplex_spec.proofs.Ordered.{AllZero, rows_stay, none_zero, zero_tail}
use Rattle.simplex_spec.proofs.Falling.{Falls, falls_once, falls_on, another, basis_set, length-basis_set}
use Rattle.simplex_spec.proofs.Counting.{Grows, unseen, unseen_falls, none_seen}

-- what holds of the opening tableau and after each lawful pivot
pub record Good (s : LinearSystem) (t : Tableau) : Type 0 where
  pub sound : Sound (width s) (opened s) (values s) (slacks s) t
  pub based : Based t
  pub positive : RowsPositive (compared s) t
  pub below : AllBelow (right s) t.basis

pub good_opening : (s : LinearSystem) → IsSystem s → Good s (opening s)
good_opening s h = record { sound = opening_sound s; based = opening_based s; positive = opening_positive s h.natural; below = below-counted (length s.rows) s.unknowns (right s) (omega arith) }

pub good_pivot : (s : LinearSystem) (t : Tableau) (l c : ℕ) → Good s t → IsPivot s t l c → Good s (pivot l c t)
good_pivot s t l c g p =
    let sound = keeps (width s) (opened s) (values s) (slacks s) t l c g.sound p.exits.inside p.exits.positive in
    let base = based (width s) (opened s) (values s) (slacks s) t l c g.sound g.based p.exits.inside in
    record {
      sound = sound;
      based = base;
      positive = rows_stay (width s) (opened s) (values s) (slacks s) (right s) t l c g.sound g.positive p.exits sound base;
      below = below-set (right s) t.basis l c g.below p.enters.before;
    }

pub good_along : (s : LinearSystem) (t : Tableau) (ps : List (ℕ × ℕ)) (u : Tableau) → Good s t → Leads s t ps u → Good s u
good_along s t [] u g h = subst (Good s) h g
good_along s t (p ∷ ps) u g h = good_along s (pivot p.0 p.1 t) ps u (good_pivot s t p.0 p.1 g h.0) h.1

pub good_course : (s : LinearSystem) (ps : List (ℕ × ℕ)) (t : Tableau) → IsSystem s → Course s ps t → Good s t
good_course s ps t h k = good_along s (opening s) ps t (good_opening s h) k.leads

-- lists of truth values that are the same
abbrev same : List Bool → List Bool → Bool
same [] [] = true
same [] (b ∷ bs) = false
same (a ∷ xs) [] = false
same (true ∷ xs) (true ∷ bs) = same xs bs
same (true ∷ xs) (false ∷ bs) = false
same (false ∷ xs) (true ∷ bs) = false
same (false ∷ xs) (false ∷ bs) = same xs bs

same_itself : (xs : List Bool) → same xs xs ≡ true
same_itself [] = refl
same_itself (true ∷ xs) = same_itself xs
same_itself (false ∷ xs) = same_itself xs

same_then : (xs ys : List Bool) → same xs ys ≡ true → xs ≡ ys
same_then [] [] h = refl
same_then [] (b ∷ bs) h = absurd (let e : false ≡ true = h in (cc))
same_then (a ∷ xs) [] h = absurd (let e : false ≡ true = h in (cc))
same_then (true ∷ xs) (true ∷ bs) h = ap (λ (zs : List Bool). true ∷ zs) (same_then xs bs h)
same_then (true ∷ xs) (false ∷ bs) h = absurd (let e : false ≡ true = h in (cc))
same_then (false ∷ xs) (true ∷ bs) h = absurd (let e : false ≡ true = h in (cc))
same_then (false ∷ xs) (false ∷ bs) h = ap (λ (zs : List Bool). false ∷ zs) (same_then xs bs h)

differ : (xs ys : List Bool) → xs ≢ ys → same xs ys ≡ false
differ xs ys n = by (same xs ys) refl
  where
    by : (b : Bool) → same xs ys ≡ b → b ≡ false
    by true e = absurd (n (same_then xs ys e))
    by false e = refl

abbrev either : Bool → Bool → Bool
either true b = true
either false b = b

-- whether some tableau from t on has the basis
abbrev seen : ℕ → Tableau → List (ℕ × ℕ) → List Bool → Bool
seen n t [] bs = same bs (basis_set n t.basis)
seen n t (p ∷ ps) bs = either (same bs (basis_set n t.basis)) (seen n (pivot p.0 p.1 t) ps bs)

module _ (s : LinearSystem) where
  falls_by_pivot : (t : Tableau) (l c : ℕ) → Good s t → IsPivot s t l c → Falls (compared s) t (pivot l c t)
  falls_by_pivot t l c g p = falls_once (width s) (opened s) (values s) (slacks s) (compared s) t l c g.sound p.exits.inside p.enters.gain (g.positive.each l p.exits.inside)

  apart : (v t : Tableau) → Good s v → Good s t → Falls (compared s) v t → same (basis_set (right s) v.basis) (basis_set (right s) t.basis) ≡ false
  apart v t g h f =
      let slacks_each : length (slacks s) ≡ length (opened s) = length-counted (length s.rows) s.unknowns ∙ sym (length-opened s) in
      differ _ _ (another (width s) (right s) (opened s) (values s) (slacks s) (compared s) v t (wide_opened s) slacks_each g.sound h.sound g.based h.based g.below f)

  -- what the gains fell from is not seen again
  not_again : (v t : Tableau) (ps : List (ℕ × ℕ)) (u : Tableau) → Good s v → Good s t → Falls (compared s) v t → Leads s t ps u → seen (right s) t ps (basis_set (right s) v.basis) ≡ false
  not_again v t [] u g h f leads = apart v t g h f
  not_again v t (p ∷ ps) u g h f leads =
      let after : Good s (pivot p.0 p.1 t) = good_pivot s t p.0 p.1 h leads.0 in
      let on : Falls (compared s) v (pivot p.0 p.1 t) = falls_on (compared s) v t (pivot p.0 p.1 t) g.sound.positive h.sound.positive after.sound.positive f (falls_by_pivot t p.0 p.1 h leads.0) in
      rw (apart v t g h f) (not_again v (pivot p.0 p.1 t) ps u g after on leads.1)

  grows_more : (t : Tableau) (p : ℕ × ℕ) (ps : List (ℕ × ℕ)) → Grows (seen (right s) (pivot p.0 p.1 t) ps) (seen (right s) t (p ∷ ps))
  grows_more t p ps = record { grows = λ bs e. more (same bs (basis_set (right s) t.basis)) _ e }
    where
      more : (a b : Bool) → b ≡ true → either a b ≡ true
      more true b e = refl
      more false b e = e

  counts : (t : Tableau) (ps : List (ℕ × ℕ)) (u : Tableau) → Good s t → Leads s t ps u → length ps + 1 + unseen (right s) (seen (right s) t ps) ≤ 2 ^ right s
  counts t [] u g h =
      let f = unseen_falls (right s) (λ bs. false) (seen (right s) t []) (basis_set (right s) t.basis) (record { grows = λ bs e. absurd (let q : false ≡ true = e in (cc)) })
      (length-basis_set (right s) t.basis) refl (same_itself (basis_set (right s) t.basis)) in
      omega (arith, none_seen (right s))
  counts t (p ∷ ps) u g h =
      let after : Good s (pivot p.0 p.1 t) = good_pivot s t p.0 p.1 g h.0 in
      let r = counts (pivot p.0 p.1 t) ps u after h.1 in
      let first : seen (right s) t (p ∷ ps) (basis_set (right s) t.basis) ≡ true = rw (same_itself (basis_set (right s) t.basis)) refl in
      let f = unseen_falls (right s) (seen (right s) (pivot p.0 p.1 t) ps) (seen (right s) t (p ∷ ps)) (basis_set (right s) t.basis) (grows_more t p ps)
      (length-basis_set (right s) t.basis) (not_again t (pivot p.0 p.1 t) ps u g after (falls_by_pivot t p.0 p.1 g h.0) h.1) first in
      omega arith

  pub courses_end : (ps : List (ℕ × ℕ)) (t : Tableau) → IsSystem s → Course s ps t → length ps < 2 ^ right s
  courses_end ps t h k = omega (arith, counts (opening s) ps t (good_opening s h) k.leads)

-- rows that are both least are the same over their numbers
both_least : (p f : ℤ) (xs ys : List ℤ) → length xs ≡ length ys → LexAtMost (scale f ys) (scale p xs) → LexAtMost (scale p xs) (scale f ys) → AllZero (swept p f xs ys)
both_least p f [] [] e a b = tt
both_least p f [] (y ∷ ys) e a b = absurd (omega arith)
both_least p f (x ∷ xs) [] e a b = absurd (omega arith)
both_least p f (x ∷ xs) (y ∷ ys) e (inl a) (inl b) = absurd (omega (arith, ints))
both_least p f (x ∷ xs) (y ∷ ys) e (inl a) (inr b) = absurd (let q = b.0 in omega (arith, ints))
both_least p f (x ∷ xs) (y ∷ ys) e (inr a) (inl b) = absurd (let q = a.0 in omega (arith, ints))
both_least p f (x ∷ xs) (y ∷ ys) e (inr a) (inr b) = (let q = a.0 in let c : x *ℤ p ≡ p *ℤ x = *ℤ_comm x p in omega (arith, ints), both_least p f xs ys (omega arith) a.1 b.1)

pub one_row_exits : (s : LinearSystem) (t : Tableau) (c l m : ℕ) → Good s t → Exits s c t l → Exits s c t m → l ≡ m
one_row_exits s t c l m g a b = elim (same_or_not m l) [
  | inl e ↦ sym e
  | inr n ↦
      let cs : List ℕ = compared s in
      let lead : List ℤ = row_at t.rows l in
      let row : List ℤ = row_at t.rows m in
      let wide : length row ≡ length lead = wide_at (width s) m t.rows g.sound.wide b.inside ∙ sym (wide_at (width s) l t.rows g.sound.wide a.inside) in
      let each : length (at_each row cs) ≡ length (at_each lead cs) = length-at_each row cs ∙ sym (length-at_each lead cs) in
      let zero : AllZero (swept (at lead c) (at row c) (at_each row cs) (at_each lead cs)) = both_least (at lead c) (at row c) (at_each row cs) (at_each lead cs) each (a.least m b.inside b.positive) (b.least l a.inside a.positive) in
      let is : at_each (row_at (pivot l c t).rows m) cs ≡ swept (at lead c) (at row c) (at_each row cs) (at_each lead cs) =
      ap (λ (v : List ℤ). at_each v cs) (row_after t l c a.inside m b.inside n) ∙ at_each-swept (at lead c) (at row c) row lead cs wide in
      let len = length_after t l c a.inside in
      let h = b.inside in
      let Z : List ℤ → Type 0 = AllZero in
      absurd (none_zero (width s) (opened s) (values s) (slacks s) (pivot l c t) m (keeps (width s) (opened s) (values s) (slacks s) t l c g.sound a.inside a.positive)
      (based (width s) (opened s) (values s) (slacks s) t l c g.sound g.based a.inside) (omega arith) (zero_tail _ _ (subst Z (sym is) zero)))
]
