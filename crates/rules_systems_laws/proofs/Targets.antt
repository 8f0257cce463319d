-- A target is reached exactly where the conditions at its positions are met.
use Rattle.std.proofs.Common.{◌≡◌, refl, ap, sym, ◌∙◌, arith, inl, inr, ⊎_elim, subst}
use Rattle.std.specs.Prelude.{ℕ, zero, suc, ◌+◌, ◌*◌, ◌<◌, ◌≤◌, ◌||◌, ◌⊎◌, Bool, true, false, List, [], ◌∷◌, length, position, slice_index_or, Option, None, Some, IsSome}
use Rattle.std.specs.List.{All, list_any, range_with_len}
use Rattle.std.proofs.lemmas.List.Elements.{All-head, All-tail}
use Rattle.std.proofs.lemmas.List.Quantifiers.{position-Some}
use Rattle.std.proofs.lemmas.Option.{slice_get-get_or}
use Rattle.raml_syntax.specs.Tree.{Type'}
use Rattle.base_poly.specs.Plain.{Plain, alike}
use Rattle.base_poly.specs.Total.{alike_is, alike_self}
use Rattle.base_poly.specs.Indices.{index_list}
use Rattle.base_poly.proofs.Among.{Among, kept_among, among_kept}
use Rattle.base_poly.proofs.Exact.{exact}
use Rattle.index_shift.specs.Potential.{Annotation}
use Rattle.index_shift.proofs.Spots.{position_there}
use Rattle.cost_free.specs.Target.{Target}
use Rattle.annot_types.specs.Holds.{number_of, CoversTarget}
use Rattle.rules_spec.specs.Numbers.{Sides}
use Rattle.rules_spec.specs.Kinds.{Amount, amounts, AllMeet}
use Rattle.rules_spec.specs.Walk.{at}
use Rattle.rules_spec.specs.Tasks.{Job, of_target}
use Rattle.rules_spec.specs.Jobs.{positions}
use Rattle.rules_spec.specs.Stand.{Stands}

among_range : (from n k : ℕ) → from ≤ k → k < from + n → Among k (range_with_len from n)
among_range from zero k l h = absurd (omega (arith, l, h))
among_range from (suc n) k l h = ⊎_elim (λ e. inl e) (λ g. inr (among_range (from + 1) n k (omega (arith, g)) (omega (arith, h)))) (either from k l) where
  either : (a b : ℕ) → a ≤ b → (a ≡ b) ⊎ (a < b)
  either zero zero l = inl refl
  either zero (suc b) l = inr (omega arith)
  either (suc a) zero l = absurd (omega (arith, l))
  either (suc a) (suc b) l = ⊎_elim (λ e. inl (ap suc e)) (λ g. inr (omega (arith, g))) (either a b (omega (arith, l)))

pub range_below : (from n k : ℕ) → Among k (range_with_len from n) → k < from + n
range_below from zero k h = absurd h
range_below from (suc n) k h = ⊎_elim (λ e. omega (arith, e)) (λ g. let l = range_below (from + 1) n k g in omega (arith, l)) h

any_among : (p : List Plain → Bool) (t : List Plain) (ts : List (List Plain)) → Among t ts → p t ≡ true → list_any p ts ≡ true
any_among p t [] h e = absurd h
any_among p t (u ∷ ts) h e = ⊎_elim (λ s. (λ i. (ap p s ∙ e) i || list_any p ts)) (λ g. by (p u) (any_among p t ts g e)) h where
  by : (b : Bool) → list_any p ts ≡ true → (b || list_any p ts) ≡ true
  by true g = refl
  by false g = g

module _ (A : Type') (budget : ℕ) where
  abbrev all : List (List Plain)
  all = index_list (A ∷ []) budget

  abbrev tuple : ℕ → List Plain
  tuple k = slice_index_or all k []

  abbrev has : Target → ℕ → Bool
  has target k = list_any (alike (tuple k)) target

  -- each tuple of the target has a position, at which there is enough
  covers : (q : Annotation) (t : ℕ) (target : Target) → ((k : ℕ) → k < length all → has target k ≡ true → t ≤ q k) → (ts : Target) → ((u : List Plain) → Among u ts → Among u target) →
      All (λ u. IsSome (position (alike u) all)) ts → CoversTarget A budget q t ts
  covers q t target enough [] sub some = tt
  covers q t target enough (u ∷ ts) sub some =
      (by (position (alike u) all) refl (All-head (λ u. IsSome (position (alike u) all)) u ts some), covers q t target enough ts (λ v m. sub v (inr m)) (All-tail (λ u. IsSome (position (alike u) all)) u ts some)) where
        by : (o : Option ℕ) → position (alike u) all ≡ o → IsSome o → t ≤ number_of q o
        by None e s = absurd (cc)
        by (Some k) e s =
            let found = position-Some (alike u) all k [] e in
            let same : u ≡ tuple k = alike_is u (tuple k) found.1 in
            enough k found.0 (any_among (alike (tuple k)) u target (sub u (inl refl)) (ap (alike (tuple k)) same ∙ alike_self (tuple k)))

  -- at each position of the target there is enough
  enough : (q : Annotation) (t : ℕ) (target : Target) → CoversTarget A budget q t target → (k : ℕ) → k < length all → has target k ≡ true → t ≤ q k
  enough q t [] c k l e = absurd (cc)
  enough q t (u ∷ ts) c k l e = by (alike (tuple k) u) refl e (enough q t ts c.1 k l) where
    by : (b : Bool) → alike (tuple k) u ≡ b → (b || list_any (alike (tuple k)) ts) ≡ true → (has ts k ≡ true → t ≤ q k) → t ≤ q k
    by true s e go =
        let same : tuple k ≡ u = alike_is (tuple k) u s in
        let there : position (alike u) all ≡ Some k =
        subst (λ v. position (alike v) all ≡ Some k) same (position_there all k (tuple k) (exact (A ∷ []) budget).ascends (slice_get-get_or all k [] l)) in
        subst (λ o. t ≤ number_of q o) there c.0
    by false s e go = go e

  -- the conditions at positions
  module _ (t : ℕ) (j : Job) (group : List (Sides Amount)) (q : Annotation)
      (stands : Stands (length all) (slice_index_or group j.function (record { args = []; result = [] })).result q) where
    abbrev result : List Amount
    result = (slice_index_or group j.function (record { args = []; result = [] })).result

    met : (ps : List ℕ) → ((p : ℕ) → Among p ps → (p < length all) × (t ≤ q p)) → AllMeet (of_target (amounts t) j group ps)
    met [] h = tt
    met (p ∷ ps) h =
        let here = h p (inl refl) in
        let s = stands.is p here.0 in
        let m : t * 1 + (at (amounts 1) result p).minus ≤ (at (amounts 1) result p).plus + 0 = omega (arith, here.1, s) in
        (m, met ps (λ p m. h p (inr m)))

    meet_enough : (ps : List ℕ) → AllMeet (of_target (amounts t) j group ps) → (p : ℕ) → Among p ps → p < length all → t ≤ q p
    meet_enough [] h p m l = absurd m
    meet_enough (r ∷ ps) h p m l = ⊎_elim (λ e. subst (λ p. t ≤ q p) e (one r (subst (λ p. p < length all) (sym e) l) h.0)) (λ g. meet_enough ps h.1 p g l) m where
      one : (r : ℕ) → r < length all → t * 1 + (at (amounts 1) result r).minus ≤ (at (amounts 1) result r).plus + 0 → t ≤ q r
      one r l h = let s = stands.is r l in omega (arith, h, s)

    -- Where the conditions at the target's positions are met, it is covered, if each of its tuples has a position.
    pub meet_covers : (target : Target) → All (λ u. IsSome (position (alike u) all)) target → AllMeet (of_target (amounts t) j group (positions A budget target)) → CoversTarget A budget q t target
    meet_covers target some h =
        covers q t target
        (λ k l e. meet_enough (positions A budget target) h k (kept_among (has target) k (range_with_len 0 (length all)) e (among_range 0 (length all) k (omega arith) (omega (arith, l)))) l)
        target (λ u m. m) some

    pub covers_meet : (target : Target) → CoversTarget A budget q t target → AllMeet (of_target (amounts t) j group (positions A budget target))
    covers_meet target c = met (positions A budget target) (λ p m.
        let kept = among_kept (has target) p (range_with_len 0 (length all)) m in
        let l = range_below 0 (length all) p kept.0 in
        let below : p < length all = omega (arith, l) in
        (below, enough q t target c p below kept.1))
