-- How the tuples of one variable are carried.
use Rattle.std.proofs.Common.{◌≡◌, ℕ, zero, suc, ◌+◌, ◌≤◌, inl, inr, ⊎_elim, Bool, true, false, not, cond, if◌then◌else◌, ◌==◌, List, [], ◌∷◌, ◌++◌, map, slice_get, slice_index_or, None, Some, All, Bor, Contains, refl, sym, ap, ◌∙◌, subst, arith, append-nil}
use Rattle.std.proofs.lemmas.List.Elements.{All-weaker, All-contains_itself}
use Rattle.std.specs.List.{position_or_len}
use Rattle.index_shift.proofs.Tabled.{one_more}
use Rattle.raml_syntax.specs.declared.ty.Ty.{Ty}
use Rattle.raml_syntax.specs.Tree.{Type'}
use Rattle.base_poly.specs.Plain.{Plain, deg, degrees, alike}
use Rattle.base_poly.specs.Indices.{AreIndices, tuples_up_to}
use Rattle.base_poly.specs.Product.{product}
use Rattle.base_poly.specs.Count.{tallied}
use Rattle.base_poly.specs.Total.{alike_is, alike_self}
use Rattle.base_poly.proofs.Among.{Among, contains_among}
use Rattle.base_poly.proofs.Exact.{sound_tuples, whole_tuples}
use Rattle.index_shift.specs.Parts.{type_parts, index_parts}
use Rattle.index_shift.specs.Maps.{Carry, opens, leaves, joins}
use Rattle.index_shift.specs.Local.{AreTargets, AreMiddles, IsLocal, target_at, middle_at, alone_of}
use Rattle.index_shift.specs.Read.{CanCarry}
use Rattle.index_shift.specs.declared.carry.Carry.TheVariants.{Open, Leave, Join}
use Rattle.index_shift.proofs.Brought.{Each}
use Rattle.index_shift.proofs.Carried.{Fits, opens_fit, leaves_fit, joins_fit}

-- a tuple of a list stands at its position
stands_at : (t : List Plain) (us : List (List Plain)) → Among t us → slice_get us (position_or_len (alike t) us) ≡ Some t
stands_at t [] m = absurd m
stands_at t (u ∷ us) m = by (alike t u) refl (stands_at t us)
  where
    later : alike t u ≡ false → Among t us
    later e = ⊎_elim (λ s. absurd (apart (sym e ∙ ap (alike t) s ∙ alike_self t))) (λ g. g) m
      where
        apart : false ≡ true → ⊥
        apart q = cc

    by : (b : Bool) → alike t u ≡ b → (Among t us → slice_get us (position_or_len (alike t) us) ≡ Some t) → slice_get (u ∷ us) (position_or_len (alike t) (u ∷ us)) ≡ Some t
    by true e more = ap (λ b. slice_get (u ∷ us) (cond (not b) (1 + position_or_len (alike t) us) 0)) e ∙ ap Some (sym (alike_is t u e))
    by false e more =
        ap (λ b. slice_get (u ∷ us) (cond (not b) (1 + position_or_len (alike t) us) 0)) e ∙ ap (slice_get (u ∷ us)) (one_more (position_or_len (alike t) us)) ∙ more (later e)

abbrev spread : List Plain → List Plain × ℕ → List Plain × ℕ
spread u e = (e.0 ++ u, e.1)

degree_there : (us : List (List Plain)) (k : ℕ) (t : List Plain) → slice_get us k ≡ Some t → slice_index_or (map degrees us) k 0 ≡ degrees t
degree_there [] k t h = absurd (none h)
  where
    none : None ≡ Some t → ⊥
    none e = cc
degree_there (u ∷ us) zero t h = same h
  where
    same : Some u ≡ Some t → degrees u ≡ degrees t
    same e = cc
degree_there (u ∷ us) (suc k) t h = degree_there us k t h

module _ (Ts : List Type') (d : ℕ) where
  abbrev us : List (List Plain)
  us = tuples_up_to Ts d

  are_targets : (m u : List Plain) (es : List (List Plain × ℕ)) → degrees m ≤ d → Each (λ e. Fits Ts (degrees m) e.0) es →
      AreTargets Ts d m u (map (spread u) es) (map (target_at us (map degrees us)) es)
  are_targets m u [] low h = tt
  are_targets m u (e ∷ es) low h =
      let at = stands_at e.0 us (whole_tuples Ts d e.0 h.0.0 (let a = h.0.1 in omega (arith, a, low))) in (
        record {
          tuple = e.0;
          there = at;
          degree = degree_there us (position_or_len (alike e.0) us) e.0 at;
          low = h.0.1;
          whole = refl;
          times = refl;
        },
        are_targets m u es low h.1,
      )

  are_middles : (c : Carry) (ms : List (List Plain)) →
      ((m : List Plain) → Among m ms → (degrees m ≤ d) × Each (λ e. Fits Ts (degrees m) e.0) (c m) × ((u : List Plain) → c (m ++ u) ≡ map (spread u) (c m))) →
      AreMiddles c Ts d ms (map (middle_at c us (map degrees us)) ms)
  are_middles c [] h = tt
  are_middles c (m ∷ ms) h =
      let k = h m (inl refl) in (
        record {
          degree = refl;
          targets = λ u. subst (λ es. AreTargets Ts d m u es (map (target_at us (map degrees us)) (c m))) (sym (k.2 u)) (are_targets m u (c m) k.0 k.1);
        },
        are_middles c ms (λ n g. h n (inr g)),
      )

-- an index alone
opens_spread : (A : Type') (m u : List Plain) → AreIndices m (A ∷ []) → opens A (m ++ u) ≡ map (spread u) (opens A m)
opens_spread A [] u h = absurd h
opens_spread A (i ∷ j ∷ m) u h = absurd h.1
opens_spread A (i ∷ []) u h = each (index_parts A i)
  where
    each : (rs : List (List Plain)) → map (λ r. (r ++ u, 1)) rs ≡ map (spread u) (map (λ r. (r ++ [], 1)) rs)
    each [] = refl
    each (r ∷ rs) = λ n. (sym (append-nil r) n ++ u, 1) ∷ each rs n

pub opened_alone : (A : Type') (d : ℕ) → IsLocal (opens A) (A ∷ []) (type_parts A) d (alone_of (opens A) (A ∷ []) (type_parts A) d)
opened_alone A d = record {
  degree = refl;
  old = refl;
  new = refl;
  middles = are_middles (type_parts A) d (opens A) (tuples_up_to (A ∷ []) d) (λ m g.
      let k = sound_tuples (A ∷ []) d m g in
      (k.1, subst (λ Ts. Each (λ e. Fits Ts (degrees m) e.0) (opens A m)) (append-nil (type_parts A)) (opens_fit A [] m k.0), λ u. opens_spread A m u k.0));
}

leaves_spread : (A : Type') (m u : List Plain) → AreIndices m (A ∷ []) → leaves (m ++ u) ≡ map (spread u) (leaves m)
leaves_spread A [] u h = absurd h
leaves_spread A (i ∷ j ∷ m) u h = absurd h.1
leaves_spread A (i ∷ []) u h = by (deg i == 0)
  where
    by : (b : Bool) → (if b then ((u, 1) ∷ []) else []) ≡ map (spread u) (if b then (([], 1) ∷ []) else [])
    by true = refl
    by false = refl

pub left_alone : (A : Type') (d : ℕ) → IsLocal leaves (A ∷ []) [] d (alone_of leaves (A ∷ []) [] d)
left_alone A d = record {
  degree = refl;
  old = refl;
  new = refl;
  middles = are_middles [] d leaves (tuples_up_to (A ∷ []) d) (λ m g. let k = sound_tuples (A ∷ []) d m g in (k.1, leaves_fit A [] m k.0, λ u. leaves_spread A m u k.0));
}

joins_spread : (A : Type') (m u : List Plain) → AreIndices m (A ∷ A ∷ []) → joins (m ++ u) ≡ map (spread u) (joins m)
joins_spread A [] u h = absurd h
joins_spread A (i ∷ []) u h = absurd h.1
joins_spread A (i ∷ j ∷ k ∷ m) u h = absurd h.1.1
joins_spread A (i ∷ j ∷ []) u h = each (tallied (product i j))
  where
    each : (es : List (Plain × ℕ)) → map (λ e. (e.0 ∷ u, e.1)) es ≡ map (spread u) (map (λ e. (e.0 ∷ [], e.1)) es)
    each [] = refl
    each (e ∷ es) = ap (λ l. (e.0 ∷ u, e.1) ∷ l) (each es)

pub joined_alone : (A : Type') (d : ℕ) → IsLocal joins (A ∷ A ∷ []) (A ∷ []) d (alone_of joins (A ∷ A ∷ []) (A ∷ []) d)
joined_alone A d = record {
  degree = refl;
  old = refl;
  new = refl;
  middles = are_middles (A ∷ []) d joins (tuples_up_to (A ∷ A ∷ []) d) (λ m g. let k = sound_tuples (A ∷ A ∷ []) d m g in (k.1, joins_fit A [] m k.0, λ u. joins_spread A m u k.0));
}

pub alone_too : (rs : List (List Plain)) → map {A = List Plain} {B = List Plain × ℕ} (λ r. (r, 1)) rs ≡ map (λ r. (r ++ [], 1)) rs
alone_too [] = refl
alone_too (r ∷ rs) = λ n. (sym (append-nil r) n, 1) ∷ alone_too rs n

-- They can be carried

each_tuple : (P : List Plain → Type 0) (As : List Type') (d : ℕ) → ((t : List Plain) → AreIndices t As → degrees t ≤ d → P t) → All P (tuples_up_to As d)
each_tuple P As d h =
    let ts = tuples_up_to As d in
    All-weaker (Contains ts) P (λ t m. let g = sound_tuples As d t (contains_among t ts m) in h t g.0 g.1) ts (All-contains_itself ts)

pub can_open : (ty : Bor Ty) (A : Type') (d : ℕ) → All (CanCarry (Open ty)) (tuples_up_to (A ∷ []) d)
can_open ty A d = each_tuple (CanCarry (Open ty)) (A ∷ []) d one
  where
    one : (t : List Plain) → AreIndices t (A ∷ []) → degrees t ≤ d → CanCarry (Open ty) t
    one [] h low = absurd h
    one (i ∷ []) h low = tt
    one (i ∷ j ∷ t) h low = absurd h.1

pub can_leave : (A : Type') (d : ℕ) → d ≤ 4 → All (CanCarry Leave) (tuples_up_to (A ∷ []) d)
can_leave A d few = each_tuple (CanCarry Leave) (A ∷ []) d one
  where
    one : (t : List Plain) → AreIndices t (A ∷ []) → degrees t ≤ d → CanCarry Leave t
    one [] h low = absurd h
    one (i ∷ []) h low = omega (arith, low, few)
    one (i ∷ j ∷ t) h low = absurd h.1

pub can_join : (A : Type') (d : ℕ) → d ≤ 4 → All (CanCarry Join) (tuples_up_to (A ∷ A ∷ []) d)
can_join A d few = each_tuple (CanCarry Join) (A ∷ A ∷ []) d one
  where
    one : (t : List Plain) → AreIndices t (A ∷ A ∷ []) → degrees t ≤ d → CanCarry Join t
    one [] h low = absurd h
    one (i ∷ []) h low = absurd h.1
    one (i ∷ j ∷ []) h low = ((A, h.0, h.1.0), (omega (arith, low, few), omega (arith, low, few)))
    one (i ∷ j ∷ k ∷ t) h low = absurd h.1.1
