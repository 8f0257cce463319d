-- The tuples of exactly a degree, of one context and of two one behind the other.
use Rattle.std.proofs.Common.{◌≡◌, ℕ, zero, suc, ◌+◌, ◌-◌, ◌≤◌, inl, ⊎_elim, Bool, true, false, not, cond, nat_eq, nat_le, nat_lt, List, [], ◌∷◌, ◌++◌, map, flat_map, filter, length, refl, sym, ap, ◌∙◌, subst, arith, append-nil}
use Rattle.std.proofs.lemmas.List.{map-append}
use Rattle.std.proofs.lemmas.List.Concat.{flat_map-append}
use Rattle.std.proofs.lemmas.Bool.{eqb-true, eq-eqb}
use Rattle.std.proofs.lemmas.Bool.Decides.{nat_tests}
use Rattle.raml_syntax.specs.Tree.{Type'}
use Rattle.base_poly.specs.Plain.{Plain, deg, degrees}
use Rattle.base_poly.specs.Indices.{AreIndices, Ascends, each_in_turn, tuples_led, indices_up_to, tuples_up_to, by_degree, index_list}
use Rattle.base_poly.proofs.Among.{Among, mapped_among, among_mapped, part_among, among_part, kept_among, among_kept, ascends_kept}
use Rattle.base_poly.proofs.Exact.{sound, whole, sound_tuples, whole_tuples, indices_ascend, tuples_ascend, led_ascends}
use Rattle.base_poly.proofs.Low.{never_turn, low_tuples}
use Rattle.base_poly.proofs.Only.{one_order}

-- the tuples of a context of exactly this degree, component by component
abbrev pub exactly : List Type' → ℕ → List (List Plain)
exactly [] zero = [] ∷ []
exactly [] (suc g) = []
exactly (A ∷ As) g = tuples_led (exactly As) g (indices_up_to A g)

-- those of each degree from `from` on, for n degrees
abbrev pub each_degree : List Type' → ℕ → ℕ → List (List Plain)
each_degree As zero from = []
each_degree As (suc n) from = exactly As from ++ each_degree As n (1 + from)

-- the tuples of degree g that begin with x, where the rest is of the types Bs
abbrev pub behind_one : List Type' → ℕ → List Plain → List (List Plain)
behind_one Bs g x = cond (nat_lt g (degrees x)) [] (map (λ u. x ++ u) (exactly Bs (g - degrees x)))

-- how many these are
abbrev pub many_behind : List Type' → ℕ → List Plain → ℕ
many_behind Bs g x = cond (nat_lt g (degrees x)) 0 (length (exactly Bs (g - degrees x)))

-- the sum of what the first k items count
abbrev pub ahead : {X : Type 0} → (X → ℕ) → List X → ℕ → ℕ
ahead f [] k = 0
ahead f (x ∷ xs) zero = 0
ahead f (x ∷ xs) (suc k) = f x + ahead f xs k

-- how many tuples have a degree below
abbrev pub lower : List Type' → ℕ → ℕ
lower As zero = 0
lower As (suc g) = lower As g + length (exactly As g)

sound_exactly : (As : List Type') (g : ℕ) (t : List Plain) → Among t (exactly As g) → AreIndices t As × (degrees t ≡ g)
sound_exactly [] zero t m = ⊎_elim (λ e. subst (λ t. AreIndices t [] × (degrees t ≡ 0)) e (tt, refl)) (λ n. absurd n) m
sound_exactly [] (suc g) t m = absurd m
sound_exactly (A ∷ As) g t m =
    let p = among_part (λ i. map (λ r. i ∷ r) (exactly As (g - deg i))) t (indices_up_to A g) m in
    let q = among_mapped (λ r. p.0 ∷ r) t (exactly As (g - deg p.0)) p.2 in
    let i = sound A g p.0 p.1 in
    let r = sound_exactly As (g - deg p.0) q.0 q.1 in
    subst (λ t. AreIndices t (A ∷ As) × (degrees t ≡ g)) q.2 ((i.0, r.0), (let a = i.1 in let b = r.1 in omega (arith, a, b)))

whole_exactly : (As : List Type') (g : ℕ) (t : List Plain) → AreIndices t As → degrees t ≡ g → Among t (exactly As g)
whole_exactly [] zero [] h e = inl refl
whole_exactly [] (suc g) [] h e = absurd (omega (arith, e))
whole_exactly [] g (i ∷ t) h e = absurd h
whole_exactly (A ∷ As) g [] h e = absurd h
whole_exactly (A ∷ As) g (i ∷ t) h e =
    part_among (λ i. map (λ r. i ∷ r) (exactly As (g - deg i))) i (i ∷ t) (indices_up_to A g) (whole A g i h.0 (omega (arith, e)))
    (mapped_among (λ r. i ∷ r) t (exactly As (g - deg i)) (whole_exactly As (g - deg i) t h.1 (omega (arith, e))))

exactly_ascend : (As : List Type') (g : ℕ) → Ascends each_in_turn (exactly As g)
exactly_ascend [] zero = (tt, tt)
exactly_ascend [] (suc g) = tt
exactly_ascend (A ∷ As) g = led_ascends (exactly As) g (indices_up_to A g) (exactly_ascend As) (indices_ascend A g)

pub of_degree : (As : List Type') (g d : ℕ) → g ≤ d → filter (λ t. nat_eq (degrees t) g) (tuples_up_to As d) ≡ exactly As g
of_degree As g d h =
    one_order each_in_turn never_turn (filter (λ t. nat_eq (degrees t) g) (tuples_up_to As d)) (exactly As g)
    (ascends_kept each_in_turn (λ t. nat_eq (degrees t) g) (tuples_up_to As d) (tuples_ascend As d)) (exactly_ascend As g)
    (λ t m. let p = among_kept (λ t. nat_eq (degrees t) g) t (tuples_up_to As d) m in whole_exactly As g t (sound_tuples As d t p.0).0 (eqb-true _ _ p.1))
    (λ t m. let p = sound_exactly As g t m in
    kept_among (λ t. nat_eq (degrees t) g) t (tuples_up_to As d) (eq-eqb _ _ p.1) (whole_tuples As d t p.0 (let e = p.1 in omega (arith, e, h))))

each_of_degree : (As : List Type') (n from d : ℕ) → from + n ≤ 1 + d → by_degree n from (tuples_up_to As d) ≡ each_degree As n from
each_of_degree As zero from d h = refl
each_of_degree As (suc n) from d h = λ i. of_degree As from d (omega (arith, h)) i ++ each_of_degree As n (1 + from) d (omega (arith, h)) i

-- Two contexts

abbrev behind_low : List Type' → ℕ → List Plain → List (List Plain)
behind_low Bs g x = map (λ u. x ++ u) (exactly Bs (g - degrees x))

map_twice : (i : Plain) (x : List Plain) (us : List (List Plain)) → map (λ r. i ∷ r) (map (λ u. x ++ u) us) ≡ map (λ u. (i ∷ x) ++ u) us
map_twice i x [] = refl
map_twice i x (u ∷ us) = ap (λ l. (i ∷ (x ++ u)) ∷ l) (map_twice i x us)

led_behind : (Bs : List Type') (g : ℕ) (i : Plain) (xs : List (List Plain)) →
    map (λ r. i ∷ r) (flat_map (behind_low Bs (g - deg i)) xs) ≡ flat_map (behind_low Bs g) (map (λ r. i ∷ r) xs)
led_behind Bs g i [] = refl
led_behind Bs g i (x ∷ xs) =
    map-append (λ r. i ∷ r) (behind_low Bs (g - deg i) x) (flat_map (behind_low Bs (g - deg i)) xs)
    ∙ (λ n. map_twice i x (exactly Bs (less n)) n ++ led_behind Bs g i xs n)
  where
    less : (g - deg i) - degrees x ≡ g - (deg i + degrees x)
    less = omega arith

flat_led : (f : List Plain → List (List Plain)) (rests : ℕ → List (List Plain)) (g : ℕ) (firsts : List Plain) →
    flat_map f (tuples_led rests g firsts) ≡ flat_map (λ i. flat_map f (map (λ r. i ∷ r) (rests (g - deg i)))) firsts
flat_led f rests g [] = refl
flat_led f rests g (i ∷ firsts) = flat_map-append f (map (λ r. i ∷ r) (rests (g - deg i))) (tuples_led rests g firsts) ∙ ap (λ l. flat_map f (map (λ r. i ∷ r) (rests (g - deg i))) ++ l) (flat_led f rests g firsts)

in_two_low : (As Bs : List Type') (g : ℕ) → exactly (As ++ Bs) g ≡ flat_map (behind_low Bs g) (tuples_up_to As g)
in_two_low [] Bs g = ap (exactly Bs) less ∙ sym (append-nil (map (λ u. [] ++ u) (exactly Bs (g - 0))) ∙ alone (exactly Bs (g - 0)))
  where
    less : g ≡ g - 0
    less = omega arith

    alone : (us : List (List Plain)) → map (λ u. [] ++ u) us ≡ us
    alone [] = refl
    alone (u ∷ us) = ap (λ l. u ∷ l) (alone us)
in_two_low (A ∷ As) Bs g = all (λ k. in_two_low As Bs k) (indices_up_to A g) ∙ sym (flat_led (behind_low Bs g) (tuples_up_to As) g (indices_up_to A g))
  where
    all : ((k : ℕ) → exactly (As ++ Bs) k ≡ flat_map (behind_low Bs k) (tuples_up_to As k)) → (is : List Plain) → tuples_led (exactly (As ++ Bs)) g is ≡ flat_map (λ i. flat_map (behind_low Bs g) (map (λ r. i ∷ r) (tuples_up_to As (g - deg i)))) is
    all less [] = refl
    all less (i ∷ is) = λ n. (ap (map (λ r. i ∷ r)) (less (g - deg i)) ∙ led_behind Bs g i (tuples_up_to As (g - deg i))) n ++ all less is n

turned : (n g : ℕ) → nat_le n g ≡ not (nat_lt g n)
turned n g = grind (arith, nat_tests)

flat_kept : (Bs : List Type') (g : ℕ) (xs : List (List Plain)) → flat_map (behind_low Bs g) (filter (λ t. nat_le (degrees t) g) xs) ≡ flat_map (behind_one Bs g) xs
flat_kept Bs g [] = refl
flat_kept Bs g (x ∷ xs) =
    (λ i. flat_map (behind_low Bs g) (cond (turned (degrees x) g i) (x ∷ kept) kept)) ∙ at (nat_lt g (degrees x)) (flat_kept Bs g xs)
  where
    kept : List (List Plain)
    kept = filter (λ t. nat_le (degrees t) g) xs

    at : (b : Bool) → flat_map (behind_low Bs g) kept ≡ flat_map (behind_one Bs g) xs →
        flat_map (behind_low Bs g) (cond (not b) (x ∷ kept) kept) ≡ cond b [] (behind_low Bs g x) ++ flat_map (behind_one Bs g) xs
    at true more = more
    at false more = ap (λ l. behind_low Bs g x ++ l) more

pub by_degrees : (As : List Type') (d : ℕ) → index_list As d ≡ each_degree As (1 + d) 0
by_degrees As d = each_of_degree As (1 + d) 0 d (omega arith)

pub in_two : (As Bs : List Type') (g d : ℕ) → g ≤ d → exactly (As ++ Bs) g ≡ flat_map (behind_one Bs g) (tuples_up_to As d)
in_two As Bs g d h = in_two_low As Bs g ∙ ap (flat_map (behind_low Bs g)) (sym (low_tuples As g d h)) ∙ flat_kept Bs g (tuples_up_to As d)
