-- The list of tuples has exactly the tuples of the context and the degree, in order.
use Rattle.std.proofs.Common.{◌≡◌, ℕ, zero, suc, ◌+◌, ◌-◌, ◌≤◌, ◌<◌, ◌⊎◌, inl, inr, ⊎_elim, Bool, List, [], ◌∷◌, map, filter, nat_eq, All, Contains, refl, sym, ap, ◌∙◌, subst, arith}
use Rattle.std.specs.declared.cmp.Ordering.TheVariants.{Less, Equal}
use Rattle.std.specs.Ordering.{ordering_then, nat_cmp}
use Rattle.std.proofs.lemmas.Bool.{eqb-true, eq-eqb}
use Rattle.std.proofs.lemmas.Bool.Decides.{nat_tests}
use Rattle.std.proofs.lemmas.List.Elements.{All-weaker, All-contains_itself}
use Rattle.raml_syntax.specs.Tree.{Type', Integer, Boolean, PairOf, ListOf, TreeOf, OptionOf}
use Rattle.base_poly.specs.Plain.{Plain, Unit', Pair, End, Then, NoEntry, OneEntry, many, entries_of, deg, degrees, order}
use Rattle.base_poly.specs.Indices.{IsIndex, AreIndices, each_in_turn, tuple_order, IsBefore, Ascends, ListsTuples, tuples_led, lists, options, indices_up_to, tuples_up_to, by_degree, index_list}
use Rattle.base_poly.specs.Total.{order_many}
use Rattle.base_poly.proofs.Among.{Among, among_contains, contains_among, among_left, among_right, among_either, kept_among, among_kept, mapped_among, among_mapped, part_among, among_part, before_all, ascends_joined, ascends_kept, ascends_as, ascends_made, ascends_led}

pub deg_many : (is : List Plain) → degrees is ≤ deg (many is)
deg_many [] = omega arith
deg_many (i ∷ is) = let more = deg_many is in omega arith

order_same : (x : Plain) → order x x ≡ Equal
order_same Unit' = refl
order_same (Pair a b) = ap (λ o. ordering_then o (order b b)) (order_same a) ∙ order_same b
order_same End = refl
order_same (Then x r) = ap (λ o. ordering_then o (order r r)) (order_same x) ∙ order_same r
order_same NoEntry = refl
order_same (OneEntry x) = order_same x

-- Order

pub led_ascends : (rests : ℕ → List (List Plain)) (d : ℕ) (firsts : List Plain) → ((k : ℕ) → Ascends each_in_turn (rests k)) → Ascends order firsts → Ascends each_in_turn (tuples_led rests d firsts)
led_ascends rests d firsts f h =
    ascends_led order each_in_turn each_in_turn (λ i r. i ∷ r) order_same (λ x u y v. refl) (λ i. rests (d - deg i)) firsts (λ i. f (d - deg i)) h

led_after_none : (rests : ℕ → List (List Plain)) (d : ℕ) (firsts : List Plain) → IsBefore each_in_turn [] (tuples_led rests d firsts)
led_after_none rests d firsts = before_all each_in_turn [] (tuples_led rests d firsts) (λ t m.
    let p = among_part (λ i. map (λ r. i ∷ r) (rests (d - deg i))) t firsts m in
    let q = among_mapped (λ r. p.0 ∷ r) t (rests (d - deg p.0)) p.2 in ap (each_in_turn []) (sym q.2))

pub lists_ascend : (items : ℕ → List Plain) → ((d : ℕ) → Ascends order (items d)) → (n d : ℕ) → Ascends each_in_turn (lists items n d)
lists_ascend items f zero d = (tt, tt)
lists_ascend items f (suc n) zero = (tt, tt)
lists_ascend items f (suc n) (suc d) = (led_after_none (lists items n) d (items d), led_ascends (lists items n) d (items d) (lists_ascend items f n) (f d))

options_ascend : (items : ℕ → List Plain) → ((d : ℕ) → Ascends order (items d)) → (d : ℕ) → Ascends order (options items d)
options_ascend items f zero = (tt, tt)
options_ascend items f (suc d) = (
  before_all order NoEntry (map OneEntry (items d)) (λ y m. let r = among_mapped OneEntry y (items d) m in ap (order NoEntry) (sym r.2)),
  ascends_made order order OneEntry (λ x u. refl) (items d) (f d),
)

pub indices_ascend : (A : Type') (d : ℕ) → Ascends order (indices_up_to A d)
indices_ascend Integer d = (tt, tt)
indices_ascend Boolean d = (tt, tt)
indices_ascend (PairOf A B) d =
    ascends_led order order order (λ i j. Pair i j) order_same (λ x u y v. refl) (λ i. indices_up_to B (d - deg i)) (indices_up_to A d) (λ i. indices_ascend B (d - deg i)) (indices_ascend A d)
indices_ascend (ListOf A) d = ascends_made each_in_turn order many order_many (lists (indices_up_to A) d d) (lists_ascend (indices_up_to A) (indices_ascend A) d d)
indices_ascend (TreeOf A) d = ascends_made each_in_turn order many order_many (lists (indices_up_to A) d d) (lists_ascend (indices_up_to A) (indices_ascend A) d d)
indices_ascend (OptionOf A) d = options_ascend (indices_up_to A) (indices_ascend A) d

pub tuples_ascend : (As : List Type') (d : ℕ) → Ascends each_in_turn (tuples_up_to As d)
tuples_ascend [] d = (tt, tt)
tuples_ascend (A ∷ As) d = led_ascends (tuples_up_to As) d (indices_up_to A d) (tuples_ascend As) (indices_ascend A d)

-- Which indices there are

pub sound_lists : (A : Type') (items : ℕ → List Plain) → ((d : ℕ) (i : Plain) → Among i (items d) → IsIndex i A × (deg i ≤ d)) →
    (n d : ℕ) (r : List Plain) → Among r (lists items n d) → IsIndex (many r) (ListOf A) × (deg (many r) ≤ d)
sound_lists A items f zero d r m = ⊎_elim (λ e. subst (λ q. IsIndex (many q) (ListOf A) × (deg (many q) ≤ d)) e (tt, omega arith)) (λ n. absurd n) m
sound_lists A items f (suc n) zero r m = ⊎_elim (λ e. subst (λ q. IsIndex (many q) (ListOf A) × (deg (many q) ≤ zero)) e (tt, omega arith)) (λ n. absurd n) m
sound_lists A items f (suc n) (suc d) r m = ⊎_elim
    (λ e. subst (λ q. IsIndex (many q) (ListOf A) × (deg (many q) ≤ suc d)) e (tt, omega arith))
    (λ g.
    let p = among_part (λ i. map (λ r. i ∷ r) (lists items n (d - deg i))) r (items d) g in
    let q = among_mapped (λ r. p.0 ∷ r) r (lists items n (d - deg p.0)) p.2 in
    let first = f d p.0 p.1 in
    let rest = sound_lists A items f n (d - deg p.0) q.0 q.1 in
    subst (λ q. IsIndex (many q) (ListOf A) × (deg (many q) ≤ suc d)) q.2
    ((first.0, rest.0), (let a = first.1 in let b = rest.1 in omega arith))) m

-- a list type and the tree type of the same elements have the same indices
pub as_tree : (i : Plain) (A : Type') → IsIndex i (ListOf A) → IsIndex i (TreeOf A)
as_tree End A h = tt
as_tree (Then i r) A h = (h.0, as_tree r A h.1)
as_tree x A h = absurd h

pub as_list : (i : Plain) (A : Type') → IsIndex i (TreeOf A) → IsIndex i (ListOf A)
as_list End A h = tt
as_list (Then i r) A h = (h.0, as_list r A h.1)
as_list x A h = absurd h

sound_options : (A : Type') (items : ℕ → List Plain) → ((d : ℕ) (i : Plain) → Among i (items d) → IsIndex i A × (deg i ≤ d)) →
    (d : ℕ) (i : Plain) → Among i (options items d) → IsIndex i (OptionOf A) × (deg i ≤ d)
sound_options A items f zero i m = ⊎_elim (λ e. subst (λ q. IsIndex q (OptionOf A) × (deg q ≤ zero)) e (tt, omega arith)) (λ n. absurd n) m
sound_options A items f (suc d) i m = ⊎_elim
    (λ e. subst (λ q. IsIndex q (OptionOf A) × (deg q ≤ suc d)) e (tt, omega arith))
    (λ g.
    let p = among_mapped OneEntry i (items d) g in
    let entry = f d p.0 p.1 in
    subst (λ q. IsIndex q (OptionOf A) × (deg q ≤ suc d)) p.2 (entry.0, (let a = entry.1 in omega arith))) m

pub sound : (A : Type') (d : ℕ) (i : Plain) → Among i (indices_up_to A d) → IsIndex i A × (deg i ≤ d)
sound Integer d i m = ⊎_elim (λ e. subst (λ q. IsIndex q Integer × (deg q ≤ d)) e (tt, omega arith)) (λ n. absurd n) m
sound Boolean d i m = ⊎_elim (λ e. subst (λ q. IsIndex q Boolean × (deg q ≤ d)) e (tt, omega arith)) (λ n. absurd n) m
sound (PairOf A B) d i m =
    let p = among_part (λ i. map (λ j. Pair i j) (indices_up_to B (d - deg i))) i (indices_up_to A d) m in
    let q = among_mapped (λ j. Pair p.0 j) i (indices_up_to B (d - deg p.0)) p.2 in
    let first = sound A d p.0 p.1 in
    let second = sound B (d - deg p.0) q.0 q.1 in
    subst (λ q. IsIndex q (PairOf A B) × (deg q ≤ d)) q.2 ((first.0, second.0), (let a = first.1 in let b = second.1 in omega arith))
sound (ListOf A) d i m =
    let p = among_mapped many i (lists (indices_up_to A) d d) m in
    subst (λ q. IsIndex q (ListOf A) × (deg q ≤ d)) p.2 (sound_lists A (indices_up_to A) (sound A) d d p.0 p.1)
sound (TreeOf A) d i m =
    let p = among_mapped many i (lists (indices_up_to A) d d) m in
    let r = sound_lists A (indices_up_to A) (sound A) d d p.0 p.1 in
    subst (λ q. IsIndex q (TreeOf A) × (deg q ≤ d)) p.2 (as_tree (many p.0) A r.0, r.1)
sound (OptionOf A) d i m = sound_options A (indices_up_to A) (sound A) d i m

pub sound_tuples : (As : List Type') (d : ℕ) (t : List Plain) → Among t (tuples_up_to As d) → AreIndices t As × (degrees t ≤ d)
sound_tuples [] d t m = ⊎_elim (λ e. subst (λ q. AreIndices q [] × (degrees q ≤ d)) e (tt, omega arith)) (λ n. absurd n) m
sound_tuples (A ∷ As) d t m =
    let p = among_part (λ i. map (λ r. i ∷ r) (tuples_up_to As (d - deg i))) t (indices_up_to A d) m in
    let q = among_mapped (λ r. p.0 ∷ r) t (tuples_up_to As (d - deg p.0)) p.2 in
    let first = sound A d p.0 p.1 in
    let rest = sound_tuples As (d - deg p.0) q.0 q.1 in
    subst (λ q. AreIndices q (A ∷ As) × (degrees q ≤ d)) q.2 ((first.0, rest.0), (let a = first.1 in let b = rest.1 in omega arith))

pub many_entries : (A : Type') (i : Plain) → IsIndex i (ListOf A) → many (entries_of i) ≡ i
many_entries A End h = refl
many_entries A (Then i r) h = ap (Then i) (many_entries A r h.1)
many_entries A x h = absurd h

pub whole_lists : (A : Type') (items : ℕ → List Plain) → ((d : ℕ) (i : Plain) → IsIndex i A → deg i ≤ d → Among i (items d)) →
    (x : Plain) (n d : ℕ) → IsIndex x (ListOf A) → deg x ≤ n → deg x ≤ d → Among (entries_of x) (lists items n d)
whole_lists A items f End zero d h j k = inl refl
whole_lists A items f End (suc n) zero h j k = inl refl
whole_lists A items f End (suc n) (suc d) h j k = inl refl
whole_lists A items f (Then i r) zero d h j k = absurd (omega (arith, j))
whole_lists A items f (Then i r) (suc n) zero h j k = absurd (omega (arith, k))
whole_lists A items f (Then i r) (suc n) (suc d) h j k =
    inr (part_among (λ i. map (λ r. i ∷ r) (lists items n (d - deg i))) i (i ∷ entries_of r) (items d) (f d i h.0 (omega arith))
    (mapped_among (λ r. i ∷ r) (entries_of r) (lists items n (d - deg i)) (whole_lists A items f r n (d - deg i) h.1 (omega arith) (omega arith))))
whole_lists A items f x n d h j k = absurd h

whole_options : (A : Type') (items : ℕ → List Plain) → ((d : ℕ) (i : Plain) → IsIndex i A → deg i ≤ d → Among i (items d)) →
    (x : Plain) (d : ℕ) → IsIndex x (OptionOf A) → deg x ≤ d → Among x (options items d)
whole_options A items f NoEntry zero h k = inl refl
whole_options A items f NoEntry (suc d) h k = inl refl
whole_options A items f (OneEntry i) zero h k = absurd (omega (arith, k))
whole_options A items f (OneEntry i) (suc d) h k = inr (mapped_among OneEntry i (items d) (f d i h (omega (arith, k))))
whole_options A items f x d h k = absurd h

pub whole : (A : Type') (d : ℕ) (i : Plain) → IsIndex i A → deg i ≤ d → Among i (indices_up_to A d)
whole Integer d Unit' h k = inl refl
whole Integer d x h k = absurd h
whole Boolean d Unit' h k = inl refl
whole Boolean d x h k = absurd h
whole (PairOf A B) d (Pair a b) h k =
    part_among (λ i. map (λ j. Pair i j) (indices_up_to B (d - deg i))) a (Pair a b) (indices_up_to A d) (whole A d a h.0 (omega arith))
    (mapped_among (λ j. Pair a j) b (indices_up_to B (d - deg a)) (whole B (d - deg a) b h.1 (omega arith)))
whole (PairOf A B) d x h k = absurd h
whole (ListOf A) d i h k =
    subst (λ q. Among q (indices_up_to (ListOf A) d)) (many_entries A i h)
    (mapped_among many (entries_of i) (lists (indices_up_to A) d d) (whole_lists A (indices_up_to A) (whole A) i d d h k k))
whole (TreeOf A) d i h k =
    let g = as_list i A h in
    subst (λ q. Among q (indices_up_to (TreeOf A) d)) (many_entries A i g)
    (mapped_among many (entries_of i) (lists (indices_up_to A) d d) (whole_lists A (indices_up_to A) (whole A) i d d g k k))
whole (OptionOf A) d i h k = whole_options A (indices_up_to A) (whole A) i d h k

pub whole_tuples : (As : List Type') (d : ℕ) (t : List Plain) → AreIndices t As → degrees t ≤ d → Among t (tuples_up_to As d)
whole_tuples [] d [] h k = inl refl
whole_tuples [] d (i ∷ is) h k = absurd h
whole_tuples (A ∷ As) d [] h k = absurd h
whole_tuples (A ∷ As) d (i ∷ is) h k =
    part_among (λ i. map (λ r. i ∷ r) (tuples_up_to As (d - deg i))) i (i ∷ is) (indices_up_to A d) (whole A d i h.0 (omega arith))
    (mapped_among (λ r. i ∷ r) is (tuples_up_to As (d - deg i)) (whole_tuples As (d - deg i) is h.1 (omega arith)))

-- By degree

degree_there : (n from : ℕ) (t : List Plain) (ts : List (List Plain)) → Among t (by_degree n from ts) → Among t ts × (from ≤ degrees t) × (degrees t < from + n)
degree_there zero from t ts m = absurd m
degree_there (suc n) from t ts m = ⊎_elim
    (λ g. let r = among_kept (λ t. nat_eq (degrees t) from) t ts g in let e = eqb-true _ _ r.1 in (r.0, omega arith, omega arith))
    (λ g. let r = degree_there n (1 + from) t ts g in let a = r.1 in let b = r.2 in (r.0, omega arith, omega arith))
    (among_either t (filter (λ t. nat_eq (degrees t) from) ts) (by_degree n (1 + from) ts) m)

there_degree : (n from : ℕ) (t : List Plain) (ts : List (List Plain)) → Among t ts → from ≤ degrees t → degrees t < from + n → Among t (by_degree n from ts)
there_degree zero from t ts m h k = absurd (omega (arith, h, k))
there_degree (suc n) from t ts m h k = ⊎_elim
    (λ e. among_left t (filter (λ t. nat_eq (degrees t) from) ts) (by_degree n (1 + from) ts) (kept_among (λ t. nat_eq (degrees t) from) t ts (eq-eqb _ _ e) m))
    (λ g. among_right t (filter (λ t. nat_eq (degrees t) from) ts) (by_degree n (1 + from) ts) (there_degree n (1 + from) t ts m g (omega arith)))
    (first h)
  where
    first : from ≤ degrees t → (degrees t ≡ from) ⊎ (1 + from ≤ degrees t)
    first h = grind (arith, nat_tests)

ascend_by_degree : (n from : ℕ) (ts : List (List Plain)) → Ascends each_in_turn ts → Ascends tuple_order (by_degree n from ts)
ascend_by_degree zero from ts h = tt
ascend_by_degree (suc n) from ts h =
    let here : List Plain → Bool = λ t. nat_eq (degrees t) from in
    ascends_joined tuple_order (filter here ts) (by_degree n (1 + from) ts)
    (ascends_as each_in_turn tuple_order (filter here ts)
    (λ x y a b. within x y (eqb-true _ _ (among_kept here x ts a).1) (eqb-true _ _ (among_kept here y ts b).1)) (ascends_kept each_in_turn here ts h))
    (ascend_by_degree n (1 + from) ts h)
    (λ x y a b. across x y (eqb-true _ _ (among_kept here x ts a).1) (degree_there n (1 + from) y ts b).1)
  where
    even : (m n : ℕ) → m ≡ n → nat_cmp m n ≡ Equal
    even m n e = grind (arith, nat_tests)

    below : (m n : ℕ) → m < n → nat_cmp m n ≡ Less
    below m n h = grind (arith, nat_tests)

    within : (x y : List Plain) → degrees x ≡ from → degrees y ≡ from → tuple_order x y ≡ each_in_turn x y
    within x y a b = ap (λ o. ordering_then o (each_in_turn x y)) (even (degrees x) (degrees y) (a ∙ sym b))

    across : (x y : List Plain) → degrees x ≡ from → 1 + from ≤ degrees y → tuple_order x y ≡ Less
    across x y a b = ap (λ o. ordering_then o (each_in_turn x y)) (below (degrees x) (degrees y) (omega arith))

pub exact : (As : List Type') (d : ℕ) → ListsTuples As d (index_list As d)
exact As d = record {
  ascends = ascend_by_degree (1 + d) 0 (tuples_up_to As d) (tuples_ascend As d);
  exactly = λ t. (
    (λ m. sound_tuples As d t (degree_there (1 + d) 0 t (tuples_up_to As d) (contains_among t (index_list As d) m)).0),
    (λ h. among_contains t (index_list As d) (there_degree (1 + d) 0 t (tuples_up_to As d) (whole_tuples As d t h.0 h.1) (omega arith) (let k = h.1 in omega arith))),
  );
}

-- what all tuples of the context and the degree have, those of the list have
pub each_listed : (P : List Plain → Type 0) (As : List Type') (d : ℕ) → ((t : List Plain) → AreIndices t As → degrees t ≤ d → P t) → All P (index_list As d)
each_listed P As d h =
    All-weaker (Contains (index_list As d)) P (λ t m. let g = ((exact As d).exactly t).0 m in h t g.0 g.1) (index_list As d) (All-contains_itself (index_list As d))
