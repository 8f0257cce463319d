-- The tuples of a target have positions, wherever its degree fits.
use Rattle.std.proofs.Common.{◌≡◌, refl, ap, sym, ◌∙◌, arith, inl, inr, ⊎_elim, subst}
use Rattle.std.specs.Prelude.{ℕ, zero, suc, ◌+◌, ◌<◌, ◌≤◌, ◌⊎◌, nat_eq, nat_lt, Bool, true, false, cond, List, [], ◌∷◌, ◌++◌, map, flat_map, take, length, position, slice_get, None, Some, IsSome}
use Rattle.std.specs.List.{All}
use Rattle.std.specs.Ordering.{is_lt}
use Rattle.std.proofs.lemmas.Bool.Decides.{nat_tests}
use Rattle.std.proofs.lemmas.List.Elements.{All-nil, All-cons}
use Rattle.std.proofs.lemmas.Option.{slice_get-get_or}
use Rattle.std.proofs.lemmas.Bool.{and_parts}
use Rattle.raml_syntax.specs.Tree.{Type', Integer, Boolean, PairOf, ListOf, TreeOf, OptionOf}
use Rattle.base_poly.specs.Plain.{Plain, entries_of, deg, degrees, alike}
use Rattle.base_poly.specs.Indices.{IsIndex, AreIndices, index_list}
use Rattle.base_poly.proofs.Among.{Among, among_contains, among_either, among_kept, among_mapped, among_part}
use Rattle.base_poly.proofs.Exact.{exact}
use Rattle.index_shift.proofs.Spots.{got_among, position_there}
use Rattle.raml_syntax.specs.SameType.{same_type}
use Rattle.raml_syntax.proofs.SameType.{same_is}
use Rattle.cost_free.specs.Target.{Target, degree_of, unit_targets, components, Holder, holder_at, holders, subsets, hold, have_one_element, can_join, joined_sets, pieces, piece_at, filled}
use Rattle.cost_free.specs.Target.{Joined, joined, cut_lists, joined_over, joined_order, put, in_order, joined_targets, targets}
use Rattle.annot_types.proofs.Lists.{some_is, length_map}
use Rattle.rules_systems_laws.proofs.Filled.{degree, degree_all, AllIndices, AllAll, entries_index, are_pieces, Fits, size_of, sum_from, AllFit, piece, filled_fits}

-- Holders

-- a component that is a list or a tree of such elements
IsHolder : List Type' → Holder → Type 0
IsHolder Cs h = (slice_get Cs h.place ≡ Some (ListOf h.element)) ⊎ (slice_get Cs h.place ≡ Some (TreeOf h.element))

-- places ascend from this one on, and lie within the components
AreHolders : List Type' → ℕ → List Holder → Type 0
AreHolders Cs from [] = Unit {0}
AreHolders Cs from (h ∷ hs) = (from ≤ h.place) × (h.place < length Cs) × IsHolder Cs h × AreHolders Cs (suc h.place) hs

holders_later : (Cs : List Type') (least from : ℕ) (hs : List Holder) → least ≤ from → AreHolders Cs from hs → AreHolders Cs least hs
unfolding AreHolders
holders_later Cs least from [] l h = tt
holders_later Cs least from (x ∷ hs) l h = (omega (arith, l, h.0), h.1, h.2, h.3)

all_holders : (All : List Type') (k : ℕ) (Cs : List Type') → ((i : ℕ) → slice_get All (k + i) ≡ slice_get Cs i) → k + length Cs ≡ length All → AreHolders All k (holders k Cs)
unfolding AreHolders IsHolder
all_holders All k [] at l = tt
all_holders All k (C ∷ Cs) at l =
    by C (ap (slice_get All) (let e : k ≡ k + 0 = omega arith in e) ∙ at 0)
    (all_holders All (suc k) Cs (λ i. ap (slice_get All) (let e : suc k + i ≡ k + suc i = omega arith in e) ∙ at (suc i)) (omega (arith, l))) where
      inside : k < length All
      inside = omega (arith, l)

      by : (C : Type') → slice_get All k ≡ Some C → AreHolders All (suc k) (holders (suc k) Cs) → AreHolders All k (holder_at k C ++ holders (suc k) Cs)
      by (ListOf E) e rest = (omega arith, inside, inl e, rest)
      by (TreeOf E) e rest = (omega arith, inside, inr e, rest)
      by Integer e rest = holders_later All k (suc k) (holders (suc k) Cs) (omega arith) rest
      by Boolean e rest = holders_later All k (suc k) (holders (suc k) Cs) (omega arith) rest
      by (PairOf A B) e rest = holders_later All k (suc k) (holders (suc k) Cs) (omega arith) rest
      by (OptionOf A) e rest = holders_later All k (suc k) (holders (suc k) Cs) (omega arith) rest

first_holders : (Cs : List Type') (from n : ℕ) (hs : List Holder) → AreHolders Cs from hs → AreHolders Cs from (take n hs)
unfolding AreHolders
first_holders Cs from zero hs h = tt
first_holders Cs from (suc n) [] h = tt
first_holders Cs from (suc n) (x ∷ hs) h = (h.0, h.1, h.2, first_holders Cs (suc x.place) n hs h.3)

some_holders : (Cs : List Type') (from : ℕ) (hs some : List Holder) → AreHolders Cs from hs → Among some (subsets hs) → AreHolders Cs from some
unfolding AreHolders
some_holders Cs from [] some h m = ⊎_elim (λ e. subst (AreHolders Cs from) e tt) (λ g. absurd g) m
some_holders Cs from (x ∷ hs) some h m = ⊎_elim
    (λ g. let s = among_mapped (λ s. x ∷ s) some (subsets hs) g in subst (AreHolders Cs from) s.2 (h.0, h.1, h.2, some_holders Cs (suc x.place) hs s.0 h.3 s.1))
    (λ g. holders_later Cs from (suc x.place) some (omega (arith, h.0)) (some_holders Cs (suc x.place) hs some h.3 g))
    (among_either some (map (λ s. x ∷ s) (subsets hs)) (subsets hs) m)

-- they hold elements of one type
AllHold : Type' → List Holder → Type 0
AllHold E [] = Unit {0}
AllHold E (h ∷ hs) = (h.element ≡ E) × AllHold E hs

all_hold : (E : Type') (hs : List Holder) → hold E hs ≡ true → AllHold E hs
unfolding AllHold
all_hold E [] e = tt
all_hold E (h ∷ hs) e =
    let b = and_parts (same_type E h.element) (hold h.element hs) e in
    let same = same_is E h.element b.0 in
    (sym same, all_hold E hs (ap (λ A. hold A hs) same ∙ b.1))

abbrev places_of : List Holder → List ℕ
places_of hs = map (λ (h : Holder). h.place) hs

-- Where pieces of indices are put at holders, they fit.
pieces_fit : (Cs : List Type') (E : Type') (from : ℕ) (hs : List Holder) (xs : List (List Plain)) → AreHolders Cs from hs → AllHold E hs → AllAll E xs →
    (k : ℕ) (C : Type') → slice_get Cs k ≡ Some C → Fits C (piece_at k (places_of hs) xs)
unfolding AreHolders AllHold AllAll Fits IsHolder
pieces_fit Cs E from [] xs h a b k C e = tt
pieces_fit Cs E from (x ∷ hs) [] h a b k C e = tt
pieces_fit Cs E from (x ∷ hs) (is ∷ xs) h a b k C e = by (nat_eq k x.place) refl (pieces_fit Cs E (suc x.place) hs xs h.3 a.1 b.1 k C e) where
  list_fits : (D : Type') → D ≡ E → ListOf D ≡ C → Fits C (Some is)
  list_fits D s c = subst (λ C. Fits C (Some is)) c (subst (λ D. AllIndices D is) (sym s) b.0)

  tree_fits : (D : Type') → D ≡ E → TreeOf D ≡ C → Fits C (Some is)
  tree_fits D s c = subst (λ C. Fits C (Some is)) c (subst (λ D. AllIndices D is) (sym s) b.0)

  by : (t : Bool) → nat_eq k x.place ≡ t → Fits C (piece_at k (map (λ (h : Holder). h.place) hs) xs) → Fits C (cond t (Some is) (piece_at k (map (λ (h : Holder). h.place) hs) xs))
  by false s rest = rest
  by true s rest =
      let same : k ≡ x.place = grind (arith, nat_tests, s) in
      ⊎_elim (λ l. list_fits x.element a.0 (some_is (ListOf x.element) C (sym l ∙ ap (slice_get Cs) (sym same) ∙ e)))
      (λ l. tree_fits x.element a.0 (some_is (TreeOf x.element) C (sym l ∙ ap (slice_get Cs) (sym same) ∙ e))) h.2

-- all pieces are put somewhere, and once
sum_one : (f g : ℕ → ℕ) (p a from n : ℕ) → from ≤ p → p < from + n → f p ≡ a → g p ≡ 0 → ((k : ℕ) → nat_eq k p ≡ false → f k ≡ g k) → sum_from f from n ≡ a + sum_from g from n
unfolding sum_from
sum_one f g p a from zero l h e z same = absurd (omega (arith, l, h))
sum_one f g p a from (suc n) l h e z same = by (nat_eq from p) refl (λ l. sum_one f g p a (suc from) n l (omega (arith, h)) e z same) where
  others : (from n : ℕ) → p < from → sum_from f from n ≡ sum_from g from n
  others from zero l = refl
  others from (suc n) l = λ i. same from (let d : nat_eq from p ≡ false = grind (arith, nat_tests, l) in d) i + others (suc from) n (omega (arith, l)) i

  by : (t : Bool) → nat_eq from p ≡ t → (suc from ≤ p → sum_from f (suc from) n ≡ a + sum_from g (suc from) n) → f from + sum_from f (suc from) n ≡ a + (g from + sum_from g (suc from) n)
  by true s go =
      let here : p ≡ from = grind (arith, nat_tests, s) in
      let first : f from ≡ a = ap f (sym here) ∙ e in
      let none : g from ≡ 0 = ap g (sym here) ∙ z in
      let rest = others (suc from) n (omega (arith, here)) in
      omega (arith, first, none, rest)
  by false s go =
      let differ : suc from ≤ p = grind (arith, nat_tests, s, l) in
      let first = same from s in
      let rest = go differ in
      omega (arith, first, rest)

none_at : (Cs : List Type') (k from : ℕ) (hs : List Holder) (xs : List (List Plain)) → k < from → AreHolders Cs from hs → piece_at k (places_of hs) xs ≡ None
unfolding AreHolders
none_at Cs k from [] xs l h = refl
none_at Cs k from (x ∷ hs) [] l h = refl
none_at Cs k from (x ∷ hs) (is ∷ xs) l h =
    let differ : nat_eq k x.place ≡ false = (let below : k < x.place = omega (arith, l, h.0) in grind (arith, nat_tests, below)) in
    ap (λ t. cond t (Some is) (piece_at k (map (λ (h : Holder). h.place) hs) xs)) differ ∙ none_at Cs k (suc x.place) hs xs (omega (arith, l, h.0)) h.3

sum_none : (from n : ℕ) → sum_from (λ k. 0) from n ≡ 0
unfolding sum_from
sum_none from zero = refl
sum_none from (suc n) = let h = sum_none (suc from) n in omega (arith, h)

all_put : (Cs : List Type') (from : ℕ) (hs : List Holder) (xs : List (List Plain)) → AreHolders Cs from hs → length xs ≡ length hs →
    sum_from (λ k. size_of (piece_at k (places_of hs) xs)) 0 (length Cs) ≡ degree_all xs
unfolding AreHolders degree_all size_of
all_put Cs from [] [] h l = sum_none 0 (length Cs)
all_put Cs from [] (x ∷ xs) h l = absurd (omega (arith, l))
all_put Cs from (y ∷ hs) [] h l = absurd (omega (arith, l))
all_put Cs from (y ∷ hs) (is ∷ xs) h l =
    let ps = map (λ (h : Holder). h.place) hs in
    let self : nat_eq y.place y.place ≡ true = grind (arith, nat_tests) in
    sum_one (λ k. size_of (cond (nat_eq k y.place) (Some is) (piece_at k ps xs))) (λ k. size_of (piece_at k ps xs)) y.place (degree is) 0 (length Cs) (omega arith) (omega (arith, h.1))
    (ap (λ t. size_of (cond t (Some is) (piece_at y.place ps xs))) self)
    (ap size_of (none_at Cs y.place (suc y.place) hs xs (omega arith) h.3))
    (λ k d. ap (λ t. size_of (cond t (Some is) (piece_at k ps xs))) d)
    ∙ ap (λ n. degree is + n) (all_put Cs (suc y.place) hs xs h.3 (omega (arith, l)))

-- Targets

-- The tuples of a target are of one degree, and each is an index of the type.
pub record IsTarget (A : Type') (target : Target) : Type 0 where
  pub one_degree : (u : List Plain) → Among u target → degrees u ≡ degree_of target
  pub indices : (u : List Plain) → Among u target → AreIndices u (A ∷ [])

unit_is : (A : Type') (d : ℕ) (target : Target) → Among target (unit_targets A d) → IsTarget A target
unit_is A d target h =
    let m = among_mapped (λ t. t ∷ []) target (index_list (A ∷ []) d) h in
    subst (IsTarget A) m.2 (record {
      one_degree = λ u g. ⊎_elim (λ e. ap degrees (sym e)) (λ n. absurd n) g;
      indices = λ u g. ⊎_elim (λ e. subst (λ u. AreIndices u (A ∷ [])) e (((exact (A ∷ []) d).exactly m.0).0 (among_contains m.0 (index_list (A ∷ []) d) m.1)).0) (λ n. absurd n) g;
    })

filled_is : (A E : Type') (hs : List Holder) (is : List Plain) → AreHolders (components A) 0 hs → AllHold E hs → AllIndices E is →
    (xs : List (List Plain)) → Among xs (pieces (length (places_of hs)) is) → IsIndex (filled A 0 (places_of hs) xs) A × (deg (filled A 0 (places_of hs) xs) ≡ degree is)
unfolding AllFit piece
filled_is A E hs is h a b xs m =
    let p = are_pieces E (length (map (λ (h : Holder). h.place) hs)) is xs m in
    let r = filled_fits (map (λ (h : Holder). h.place) hs) xs A 0
    (λ i C e. subst (λ j. Fits C (piece_at j (map (λ (h : Holder). h.place) hs) xs)) (let z : i ≡ 0 + i = omega arith in z) (pieces_fit (components A) E 0 hs xs h a (p.indices b) i C e)) in
    (r.0, r.1 ∙ all_put (components A) 0 hs xs h (p.many ∙ length_map (λ (h : Holder). h.place) hs) ∙ p.sum)

one_plus : (n : ℕ) → n + 0 ≡ n
one_plus n = omega arith

-- the first of them has the degree of all
first_degree : {X : Type 0} (f : X → Plain) (n : ℕ) (xs : List X) (u : List Plain) → ((x : X) → Among x xs → deg (f x) ≡ n) → Among u (map (λ x. f x ∷ []) xs) → degrees u ≡ degree_of (map (λ x. f x ∷ []) xs)
first_degree f n [] u h m = absurd m
first_degree f n (x ∷ xs) u h m =
    let y = among_mapped (λ x. f x ∷ []) u (x ∷ xs) m in
    ap degrees (sym y.2) ∙ ap (λ k. k + 0) (h y.0 y.1 ∙ sym (h x (inl refl)))

joined_is : (A E : Type') (hs : List Holder) (l : Plain) → AreHolders (components A) 0 hs → AllHold E hs → IsIndex l (ListOf E) → IsTarget A (joined A (places_of hs) l).target
joined_is A E hs l h a i =
    let of = filled_is A E hs (entries_of l) h a (entries_index E l i) in
    let all = pieces (length (places_of hs)) (entries_of l) in
    record {
      one_degree = λ u m. first_degree (λ xs. filled A 0 (places_of hs) xs) (degree (entries_of l)) all u (λ xs n. (of xs n).1) m;
      indices = λ u m.
          let y = among_mapped (λ xs. filled A 0 (places_of hs) xs ∷ []) u all m in
          subst (λ u. AreIndices u (A ∷ [])) y.2 ((of y.0 y.1).0, tt);
    }

-- what is listed is of the type
flat_index : (E : Type') (ts : List (List Plain)) (l : Plain) → ((t : List Plain) → Among t ts → AreIndices t (E ∷ [])) → Among l (flat_map (λ t. t) ts) → IsIndex l E
flat_index E ts l h m = let p = among_part (λ t. t) l ts m in one p.0 (h p.0 p.1) p.2 where
  one : (t : List Plain) → AreIndices t (E ∷ []) → Among l t → IsIndex l E
  one [] a m = absurd m
  one (i ∷ []) a m = ⊎_elim (λ e. subst (λ i. IsIndex i E) e a.0) (λ n. absurd n) m
  one (i ∷ j ∷ is) a m = absurd a.1

put_among : (x y : Joined) (ys : List Joined) → Among y (put x ys) → (x ≡ y) ⊎ Among y ys
put_among x y [] m = m
put_among x y (z ∷ ys) m = by (is_lt (joined_order x z)) (put_among x y ys) m where
  by : (t : Bool) → (Among y (put x ys) → (x ≡ y) ⊎ Among y ys) → Among y (cond t (x ∷ z ∷ ys) (z ∷ put x ys)) → (x ≡ y) ⊎ Among y (z ∷ ys)
  by true go m = m
  by false go m = ⊎_elim (λ e. inr (inl e)) (λ g. ⊎_elim (λ e. inl e) (λ n. inr (inr n)) (go g)) m

order_among : (y : Joined) (xs : List Joined) → Among y (in_order xs) → Among y xs
order_among y [] m = m
order_among y (x ∷ xs) m = ⊎_elim (λ e. inl e) (λ g. inr (order_among y xs g)) (put_among x y (in_order xs) m)

over_is : (A : Type') (d : ℕ) (hs : List Holder) (j : Joined) → AreHolders (components A) 0 hs → have_one_element hs ≡ true → Among j (joined_over A d hs) → IsTarget A j.target
unfolding AllHold
over_is A d [] j h e m = absurd m
over_is A d (x ∷ hs) j h e m =
    let l = among_mapped (joined A (places_of (x ∷ hs))) j (cut_lists x.element d) m in
    let kept = among_kept (λ l. nat_lt 0 (deg l)) l.0 (flat_map (λ t. t) (index_list (ListOf x.element ∷ []) d)) l.1 in
    let index = flat_index (ListOf x.element) (index_list (ListOf x.element ∷ []) d) l.0
    (λ t n. (((exact (ListOf x.element ∷ []) d).exactly t).0 (among_contains t (index_list (ListOf x.element ∷ []) d) n)).0) kept.0 in
    subst (λ (j : Joined). IsTarget A j.target) l.2 (joined_is A x.element (x ∷ hs) l.0 h (refl, all_hold x.element hs e) index)

joined_targets_are : (A : Type') (d : ℕ) (target : Target) → Among target (joined_targets A d) → IsTarget A target
joined_targets_are A d target m =
    let j = among_mapped (λ (j : Joined). j.target) target (in_order (flat_map (joined_over A d) (joined_sets A))) m in
    let part = among_part (joined_over A d) j.0 (joined_sets A) (order_among j.0 (flat_map (joined_over A d) (joined_sets A)) j.1) in
    let hs = part.0 in
    let kept = among_kept can_join hs (subsets (take 8 (holders 0 (components A)))) part.1 in
    let whole = all_holders (components A) 0 (components A) (λ i. ap (slice_get (components A)) (let e : 0 + i ≡ i = omega arith in e)) (omega arith) in
    subst (IsTarget A) j.2 (over_is A d hs j.0
    (some_holders (components A) 0 (take 8 (holders 0 (components A))) hs (first_holders (components A) 0 8 (holders 0 (components A)) whole) kept.0)
    (and_parts _ (have_one_element hs) kept.1).1 part.2)

pub targets_are : (A : Type') (d : ℕ) (target : Target) → Among target (targets A d) → IsTarget A target
targets_are A d target m = ⊎_elim (unit_is A d target) (joined_targets_are A d target) (among_either target (unit_targets A d) (joined_targets A d) m)

-- So each tuple has a position at a budget that the degree fits.
pub have_positions : (A : Type') (d budget number : ℕ) (target : Target) → slice_get (targets A d) number ≡ Some target → degree_of target ≤ budget →
    All (λ u. IsSome (position (alike u) (index_list (A ∷ []) budget))) target
have_positions A d budget number target e low =
    let is = targets_are A d target (got_among (targets A d) number target e) in
    each target (λ u m. one u (is.indices u m) (let s = is.one_degree u m in omega (arith, s, low))) where
      all : List (List Plain)
      all = index_list (A ∷ []) budget

      one : (u : List Plain) → AreIndices u (A ∷ []) → degrees u ≤ budget → IsSome (position (alike u) (index_list (A ∷ []) budget))
      one u i l =
          let list = exact (A ∷ []) budget in
          let there = (list.exactly u).1 (i, l) in
          let place = position_there (index_list (A ∷ []) budget) there.0 u list.ascends (slice_get-get_or (index_list (A ∷ []) budget) there.0 u there.1 ∙ ap Some there.2) in
          subst IsSome (sym place) refl

      each : (ts : Target) → ((u : List Plain) → Among u ts → IsSome (position (alike u) (index_list (A ∷ []) budget))) → All (λ u. IsSome (position (alike u) (index_list (A ∷ []) budget))) ts
      each [] h = All-nil (λ u. IsSome (position (alike u) (index_list (A ∷ []) budget)))
      each (u ∷ ts) h = All-cons (λ u. IsSome (position (alike u) (index_list (A ∷ []) budget))) u ts (h u (inl refl)) (each ts (λ v m. h v (inr m)))
