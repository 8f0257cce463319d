-- The maps keep potential.
use Rattle.std.proofs.Common.{◌≡◌, ◌≤◌, ◌==◌, ℕ, zero, suc, ◌*◌, Bool, true, false, if◌then◌else◌, List, [], ◌∷◌, ◌++◌, map, slice_get, slice_index_or, Some, refl, sym, ap, ◌∙◌, subst, arith}
use Rattle.std.proofs.Math.Nat.{mul-le-mul_left}
use Rattle.std.proofs.lemmas.Option.{same_Some}
use Rattle.raml_syntax.specs.Tree.{Type'}
use Rattle.raml_syntax.specs.Value.{Value, Has, Empty}
use Rattle.base_poly.specs.Plain.{Plain, Unit', deg, degrees}
use Rattle.base_poly.specs.Indices.{AreIndices, index_list}
use Rattle.base_poly.specs.Base.{base, bases}
use Rattle.base_poly.proofs.Among.{Among, among_contains, contains_among}
use Rattle.base_poly.proofs.Exact.{exact}
use Rattle.index_shift.specs.Parts.{type_parts, value_parts}
use Rattle.index_shift.specs.Potential.{Annotation, weighed, potential, moved}
use Rattle.index_shift.specs.Maps.{Carry, in_place, none, twice, behind, opens, leaves, joins, entries, variable_type}
use Rattle.index_shift.specs.Laws.{OpeningKeeps, LeavingKeeps, LeavingKeepsZero, LeavingLowers, SharingKeeps}
use Rattle.index_shift.proofs.Brought.{Each, each_weaker, each_among, weighed_same, weighed_less, carried_worth}
use Rattle.index_shift.proofs.Carried.{Fits, each_map, carried_at, opens_fit, leaves_fit, joins_fit, opens_worth, leaves_worth, leaves_zero, leaves_lower, joins_worth}

abbrev one : {X : Type 0} → X → List X
one x = x ∷ []

pub in_place_one : {X : Type 0} (at : ℕ) (xs : List X) → in_place at one xs ≡ xs
in_place_one at [] = refl
in_place_one zero (x ∷ xs) = refl
in_place_one (suc k) (x ∷ xs) = ap (λ l. x ∷ l) (in_place_one k xs)

-- one more index before each, at one more value
led : (i : Plain) (w : Value) (ws : List Value) (es : List (List Plain × ℕ)) → carried_at (w ∷ ws) (map (λ e. (i ∷ e.0, e.1)) es) ≡ base i w * carried_at ws es
led i w ws [] = grind arith
led i w ws (e ∷ es) = let more = led i w ws es in grind (arith, more)

-- Behind other variables

module _ (c : Carry) (f g : Type' → List Type') (A : Type') where
  behind_fits : ((As : List Type') (t : List Plain) → AreIndices t (f A ++ As) → Each (λ e. Fits (g A ++ As) (degrees t) e.0) (c t)) →
      (at : ℕ) (As : List Type') → slice_get As at ≡ Some A → (t : List Plain) → AreIndices t (in_place at f As) → Each (λ e. Fits (in_place at g As) (degrees t) e.0) (behind at c t)
  behind_fits head at [] there t h = absurd (cc)
  behind_fits head zero (B ∷ As) there t h =
      let same = same_Some B A there in
      subst (λ D. Each (λ e. Fits (g D ++ As) (degrees t) e.0) (c t)) (sym same) (head As t (subst (λ D. AreIndices t (f D ++ As)) same h))
  behind_fits head (suc k) (B ∷ As) there [] h = absurd h
  behind_fits head (suc k) (B ∷ As) there (i ∷ t) h =
      each_map (λ e. Fits (in_place k g As) (degrees t) e.0) (λ e. Fits (B ∷ in_place k g As) (degrees (i ∷ t)) e.0) (λ e. (i ∷ e.0, e.1)) (behind k c t)
      (λ e fits. ((h.0, fits.0), (let low = fits.1 in omega (arith, low)))) (behind_fits head k As there t h.1)

  -- R is equality or ≤
  module _ (R : ℕ → ℕ → Type 0) (scale : (k m n : ℕ) → R m n → R (k * m) (k * n)) (before after : Value → List Value) (v : Value) where
    behind_worth : ((As : List Type') (t : List Plain) (us : List Value) → AreIndices t (f A ++ As) → R (carried_at (after v ++ us) (c t)) (bases t (before v ++ us))) →
        (at : ℕ) (As : List Type') (vs : List Value) → slice_get As at ≡ Some A → slice_get vs at ≡ Some v → (t : List Plain) → AreIndices t (in_place at f As) →
        R (carried_at (in_place at after vs) (behind at c t)) (bases t (in_place at before vs))
    behind_worth head at [] vs there value t h = absurd (cc)
    behind_worth head zero (B ∷ As) [] there value t h = absurd (cc)
    behind_worth head zero (B ∷ As) (w ∷ vs) there value t h =
        let same = same_Some B A there in
        subst (λ u. R (carried_at (after u ++ vs) (c t)) (bases t (before u ++ vs))) (sym (same_Some w v value)) (head As t vs (subst (λ D. AreIndices t (f D ++ As)) same h))
    behind_worth head (suc k) (B ∷ As) [] there value t h = absurd (cc)
    behind_worth head (suc k) (B ∷ As) (w ∷ vs) there value [] h = absurd h
    behind_worth head (suc k) (B ∷ As) (w ∷ vs) there value (i ∷ t) h =
        subst (λ n. R n (base i w * bases t (in_place k before vs))) (sym (led i w (in_place k after vs) (behind k c t)))
        (scale (base i w) _ _ (behind_worth head k As vs there value t h.1))

-- Whole maps

module _ (c : Carry) (As Bs : List Type') (d : ℕ) (fits : (t : List Plain) → AreIndices t As → Each (λ e. Fits Bs (degrees t) e.0) (c t)) where
  listed : (t : List Plain) → Among t (index_list As d) → AreIndices t As × (degrees t ≤ d)
  listed t m = ((exact As d).exactly t).0 (among_contains t (index_list As d) m)

  carried_among : Each (λ t. Each (λ e. Among e.0 (index_list Bs d)) (c t)) (index_list As d)
  carried_among = each_among _ (index_list As d) (λ t m.
      let h = listed t m in
      each_weaker (λ e. Fits Bs (degrees t) e.0) (λ e. Among e.0 (index_list Bs d)) (c t)
      (λ e g. contains_among e.0 (index_list Bs d) (((exact Bs d).exactly e.0).1 (g.0, (let low = h.1 in let less = g.1 in omega (arith, low, less))))) (fits t h.0))

  map_worth : (ws : List Value) (q : Annotation) → potential Bs d (moved (entries c As Bs d) q) ws ≡ weighed (λ t. carried_at ws (c t)) (index_list As d) q
  map_worth ws q = carried_worth (λ t. bases t ws) (index_list Bs d) q c (index_list As d) carried_among

  pub map_is : (ws : List Value) (f : List Plain → ℕ) → ((t : List Plain) → AreIndices t As → carried_at ws (c t) ≡ f t) → (q : Annotation) →
      potential Bs d (moved (entries c As Bs d) q) ws ≡ weighed f (index_list As d) q
  map_is ws f h q = map_worth ws q ∙ weighed_same _ _ (index_list As d) q (each_among _ (index_list As d) (λ t m. h t (listed t m).0))

  pub map_keeps : (vs ws : List Value) → ((t : List Plain) → AreIndices t As → carried_at ws (c t) ≡ bases t vs) → (q : Annotation) →
      potential Bs d (moved (entries c As Bs d) q) ws ≡ potential As d q vs
  map_keeps vs ws h q = map_is ws (λ t. bases t vs) h q

  pub map_lowers : (vs ws : List Value) → ((t : List Plain) → AreIndices t As → carried_at ws (c t) ≤ bases t vs) → (q : Annotation) →
      potential Bs d (moved (entries c As Bs d) q) ws ≤ potential As d q vs
  map_lowers vs ws h q =
      subst (λ n. n ≤ potential As d q vs) (sym (map_worth ws q)) (weighed_less _ _ (index_list As d) q (each_among _ (index_list As d) (λ t m. h t (listed t m).0)))

equal_scale : (k m n : ℕ) → m ≡ n → k * m ≡ k * n
equal_scale k m n h = ap (λ j. k * j) h

less_scale : (k m n : ℕ) → m ≤ n → k * m ≤ k * n
less_scale k m n h = mul-le-mul_left k h

as_one : {X : Type 0} (P : List X → Type 0) (at : ℕ) (xs : List X) → P (in_place at one xs) → P xs
as_one P at xs h = subst P (in_place_one at xs) h

to_one : {X : Type 0} (P : List X → Type 0) (at : ℕ) (xs : List X) → P xs → P (in_place at one xs)
to_one P at xs h = subst P (sym (in_place_one at xs)) h

the_type : (As : List Type') (at : ℕ) (A : Type') → slice_get As at ≡ Some A → variable_type As at ≡ A
the_type [] at A h = absurd (cc)
the_type (B ∷ As) zero A h = same_Some B A h
the_type (B ∷ As) (suc k) A h = the_type As k A h

pub opening_keeps : OpeningKeeps
opening_keeps As at d v some vs h q =
    let A = h.type in
    subst (λ B. potential (in_place at type_parts As) d (moved (entries (behind at (opens B)) As (in_place at type_parts As) d) q) (in_place at value_parts vs) ≡ potential As d q vs) (sym (the_type As at A h.there))
    (map_keeps (behind at (opens A)) As (in_place at type_parts As) d
    (λ t g. behind_fits (opens A) one type_parts A (λ Bs u k. opens_fit A Bs u k) at As h.there t (to_one (AreIndices t) at As g))
    vs (in_place at value_parts vs)
    (λ t g. as_one (λ us. carried_at (in_place at value_parts vs) (behind at (opens A) t) ≡ bases t us) at vs
    (behind_worth (opens A) one type_parts A ◌≡◌ equal_scale one value_parts v (λ Bs u us k. opens_worth A Bs v u us h.has some k) at As vs h.there h.value t (to_one (AreIndices t) at As g)))
    q)

module _ (As : List Type') (at d : ℕ) (A : Type') (there : slice_get As at ≡ Some A) where
  leaving_fits : (t : List Plain) → AreIndices t As → Each (λ e. Fits (in_place at none As) (degrees t) e.0) (behind at leaves t)
  leaving_fits t g = behind_fits leaves one none A (λ Bs u k. leaves_fit A Bs u k) at As there t (to_one (AreIndices t) at As g)

pub leaving_keeps : LeavingKeeps
leaving_keeps As at d vs h =
    let A = h.type in
    map_keeps (behind at leaves) As (in_place at none As) d (leaving_fits As at d A h.there) vs (in_place at none vs)
    (λ t g. as_one (λ us. carried_at (in_place at none vs) (behind at leaves t) ≡ bases t us) at vs
    (behind_worth leaves one none A ◌≡◌ equal_scale one none Empty (λ Bs u us k. leaves_worth A Bs u us h.has k) at As vs h.there h.value t (to_one (AreIndices t) at As g)))

leaves_behind : (at : ℕ) (As : List Type') (vs : List Value) (A : Type') (v : Value) → slice_get As at ≡ Some A → slice_get vs at ≡ Some v → Has v A → (t : List Plain) → AreIndices t As →
    carried_at (in_place at none vs) (behind at leaves t) ≡ (if deg (slice_index_or t at Unit') == 0 then bases t vs else 0)
leaves_behind at [] vs A v there value has t h = absurd (cc)
leaves_behind at (B ∷ As) [] A v there value has t h = absurd (cc)
leaves_behind at (B ∷ As) (w ∷ vs) A v there value has [] h = absurd h
leaves_behind zero (B ∷ As) (w ∷ vs) A v there value has (i ∷ t) h =
    leaves_zero B As w i t vs (subst (λ u. Has u B) (sym (same_Some w v value)) (subst (Has v) (sym (same_Some B A there)) has)) h.0
leaves_behind (suc k) (B ∷ As) (w ∷ vs) A v there value has (i ∷ t) h =
    led i w (in_place k none vs) (behind k leaves t)
    ∙ ap (λ n. base i w * n) (leaves_behind k As vs A v there value has t h.1)
    ∙ by (deg (slice_index_or t k Unit') == 0)
  where
    by : (b : Bool) → base i w * (if b then bases t vs else 0) ≡ (if b then base i w * bases t vs else 0)
    by true = refl
    by false = grind arith

pub leaving_keeps_zero : LeavingKeepsZero
leaving_keeps_zero As at d v vs h =
    map_is (behind at leaves) As (in_place at none As) d (leaving_fits As at d h.type h.there) (in_place at none vs) (λ t. if deg (slice_index_or t at Unit') == 0 then bases t vs else 0)
    (leaves_behind at As vs h.type v h.there h.value h.has)

pub leaving_lowers : LeavingLowers
leaving_lowers As at d v vs h =
    let A = h.type in
    map_lowers (behind at leaves) As (in_place at none As) d (leaving_fits As at d A h.there) vs (in_place at none vs)
    (λ t g. as_one (λ us. carried_at (in_place at none vs) (behind at leaves t) ≤ bases t us) at vs
    (behind_worth leaves one none A ◌≤◌ less_scale one none v (λ Bs u us k. leaves_lower A Bs v u us h.has k) at As vs h.there h.value t (to_one (AreIndices t) at As g)))

pub sharing_keeps : SharingKeeps
sharing_keeps As at d v vs h =
    let A = h.type in
    map_keeps (behind at joins) (in_place at twice As) As d
    (λ t g. as_one (λ Bs. Each (λ e. Fits Bs (degrees t) e.0) (behind at joins t)) at As (behind_fits joins twice one A (λ Bs u k. joins_fit A Bs u k) at As h.there t g))
    (in_place at twice vs) vs
    (λ t g. as_one (λ us. carried_at us (behind at joins t) ≡ bases t (in_place at twice vs)) at vs
    (behind_worth joins twice one A ◌≡◌ equal_scale twice one v (λ Bs u us k. joins_worth A Bs v u us k) at As vs h.there h.value t g))
