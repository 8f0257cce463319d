-- How the parts of a tuple are carried.
use Rattle.std.proofs.Common.{◌≡◌, ◌≢◌, ◌≤◌, ◌<◌, ℕ, suc, ◌+◌, ◌*◌, ◌==◌, if◌then◌else◌, Bool, true, false, List, [], ◌∷◌, ◌++◌, map, length, All, refl, sym, ap, ◌∙◌, subst, arith}
use Rattle.std.proofs.lemmas.Bool.{eqb-true, ne_eqb}
use Rattle.raml_syntax.specs.Tree.{Type', Integer, Boolean, PairOf, ListOf, TreeOf, OptionOf}
use Rattle.raml_syntax.specs.Value.{Value, Number, Truth, Both, Empty, Cons, Node, Just, Has}
use Rattle.base_poly.specs.Plain.{Plain, Pair, End, Then, NoEntry, OneEntry, many, entries_of, deg, degrees}
use Rattle.base_poly.specs.Indices.{IsIndex, AreIndices, zero_of}
use Rattle.base_poly.specs.Base.{total, base, bases}
use Rattle.base_poly.specs.Product.{product}
use Rattle.base_poly.specs.Count.{tallied, counted_worth, IsTerm}
use Rattle.base_poly.specs.Laws.{cuts}
use Rattle.base_poly.proofs.Sums.{total_joined, total_map}
use Rattle.base_poly.proofs.Exact.{many_entries, as_list}
use Rattle.base_poly.proofs.Longer.{zero_is_index, zero_degree}
use Rattle.base_poly.proofs.Recursion.{by_value, types_have_zero, zero_one}
use Rattle.base_poly.proofs.Counted.{product_counted, product_weighed}
use Rattle.index_shift.specs.Parts.{type_parts, value_parts, at_trees, list_parts, tree_parts, index_parts}
use Rattle.index_shift.specs.Maps.{opens, leaves, joins}
use Rattle.index_shift.proofs.Brought.{Each, each_joined}

-- A tuple of the context, of at most this degree
abbrev pub Fits : List Type' → ℕ → List Plain → Type 0
Fits As d t = AreIndices t As × (degrees t ≤ d)

pub each_map : {X Y : Type 0} (P : X → Type 0) (Q : Y → Type 0) (g : X → Y) (xs : List X) → ((x : X) → P x → Q (g x)) → Each P xs → Each Q (map g xs)
each_map P Q g [] f h = tt
each_map P Q g (x ∷ xs) f h = (f x h.0, each_map P Q g xs f h.1)

each_all : {X : Type 0} (P : X → Type 0) (xs : List X) → All P xs → Each P xs
each_all P [] h = tt
each_all P (x ∷ xs) h = (h 0 x (omega arith), each_all P xs (λ k d l. h (suc k) d (omega (arith, l))))

pub are_joined : (r t : List Plain) (As Bs : List Type') → AreIndices r As → AreIndices t Bs → AreIndices (r ++ t) (As ++ Bs)
are_joined [] t [] Bs h g = g
are_joined [] t (A ∷ As) Bs h g = absurd h
are_joined (i ∷ r) t [] Bs h g = absurd h
are_joined (i ∷ r) t (A ∷ As) Bs h g = (h.0, are_joined r t As Bs h.1 g)

pub as_long : (t : List Plain) (As : List Type') → AreIndices t As → length t ≡ length As
as_long [] [] h = refl
as_long [] (A ∷ As) h = absurd h
as_long (i ∷ t) [] h = absurd h
as_long (i ∷ t) (A ∷ As) h = ap suc (as_long t As h.1)

pub degrees_joined : (r t : List Plain) → degrees (r ++ t) ≡ degrees r + degrees t
degrees_joined [] t = omega arith
degrees_joined (i ∷ r) t = let more = degrees_joined r t in omega (arith, more)

-- Indices of lists and trees are their entries

many_of_list : (A : Type') (i : Plain) → IsIndex i (ListOf A) → i ≡ many (entries_of i)
many_of_list A i h = sym (many_entries A i h)

many_of_tree : (A : Type') (i : Plain) → IsIndex i (TreeOf A) → i ≡ many (entries_of i)
many_of_tree A i h = sym (many_entries A i (as_list i A h))

-- Parts are indices of the types of the parts

record HalvesFit (A : Type') (n : ℕ) (c : List Plain × List Plain) : Type 0 where
  first : IsIndex (many c.0) (TreeOf A)
  second : IsIndex (many c.1) (TreeOf A)
  degree : deg (many c.0) + deg (many c.1) ≡ n

cuts_fit : (A : Type') (is : List Plain) → IsIndex (many is) (TreeOf A) → Each (HalvesFit A (deg (many is))) (cuts is)
cuts_fit A [] h = (record { first = tt; second = tt; degree = refl }, tt)
cuts_fit A (i ∷ is) h = (
  record { first = tt; second = h; degree = omega arith },
  each_map (HalvesFit A (deg (many is))) (HalvesFit A (deg (many (i ∷ is)))) (λ c. (i ∷ c.0, c.1)) (cuts is)
      (λ c g. record { first = (h.0, g.first); second = g.second; degree = (let e = g.degree in omega (arith, e)) }) (cuts_fit A is h.1),
)

at_trees_fit : (A : Type') (i : Plain) (is : List Plain) (d : ℕ) → IsIndex i A → IsIndex (many is) (TreeOf A) → deg i + deg (many is) ≤ d → Each (Fits (A ∷ TreeOf A ∷ TreeOf A ∷ []) d) (at_trees i is)
at_trees_fit A i is d hi h low =
    each_map (HalvesFit A (deg (many is))) (Fits (A ∷ TreeOf A ∷ TreeOf A ∷ []) d) (λ c. i ∷ many c.0 ∷ many c.1 ∷ []) (cuts is)
    (λ c g. ((hi, (g.first, (g.second, tt))), (let e = g.degree in omega (arith, e, low)))) (cuts_fit A is h)

list_fit : (A : Type') (is : List Plain) → IsIndex (many is) (ListOf A) → Each (Fits (A ∷ ListOf A ∷ []) (deg (many is))) (list_parts (zero_of A) is)
list_fit A [] h = (((zero_is_index A, (tt, tt)), (let z = zero_degree A in omega (arith, z))), tt)
list_fit A (i ∷ is) h = (((h.0, (h.1, tt)), omega arith), (((zero_is_index A, (h, tt)), (let z = zero_degree A in omega (arith, z))), tt))

tree_fit : (A : Type') (is : List Plain) → IsIndex (many is) (TreeOf A) → Each (Fits (A ∷ TreeOf A ∷ TreeOf A ∷ []) (deg (many is))) (tree_parts (zero_of A) is)
tree_fit A [] h = at_trees_fit A (zero_of A) [] 0 (zero_is_index A) tt (let z = zero_degree A in omega (arith, z))
tree_fit A (i ∷ is) h =
    each_joined (Fits (A ∷ TreeOf A ∷ TreeOf A ∷ []) (deg (many (i ∷ is)))) (at_trees i is) (at_trees (zero_of A) (i ∷ is))
    (at_trees_fit A i is _ h.0 h.1 (omega arith)) (at_trees_fit A (zero_of A) (i ∷ is) _ (zero_is_index A) h (let z = zero_degree A in omega (arith, z)))

parts_fit : (A : Type') (i : Plain) → IsIndex i A → Each (Fits (type_parts A) (deg i)) (index_parts A i)
parts_fit Integer i h = tt
parts_fit Boolean i h = tt
parts_fit (PairOf A B) (Pair i j) h = (((h.0, (h.1, tt)), omega arith), tt)
parts_fit (PairOf A B) i h = absurd h
parts_fit (ListOf A) i h =
    let same = many_of_list A i h in
    subst (λ n. Each (Fits (A ∷ ListOf A ∷ []) n) (list_parts (zero_of A) (entries_of i))) (ap deg (sym same)) (list_fit A (entries_of i) (subst (λ j. IsIndex j (ListOf A)) same h))
parts_fit (TreeOf A) i h =
    let same = many_of_tree A i h in
    subst (λ n. Each (Fits (A ∷ TreeOf A ∷ TreeOf A ∷ []) n) (tree_parts (zero_of A) (entries_of i))) (ap deg (sym same)) (tree_fit A (entries_of i) (subst (λ j. IsIndex j (TreeOf A)) same h))
parts_fit (OptionOf A) NoEntry h = (((zero_is_index A, tt), (let z = zero_degree A in omega (arith, z))), tt)
parts_fit (OptionOf A) (OneEntry i) h = (((h, tt), omega arith), tt)
parts_fit (OptionOf A) i h = absurd h

pub opens_fit : (A : Type') (As : List Type') (t : List Plain) → AreIndices t (A ∷ As) → Each (λ e. Fits (type_parts A ++ As) (degrees t) e.0) (opens A t)
opens_fit A As [] h = tt
opens_fit A As (i ∷ t) h =
    each_map (Fits (type_parts A) (deg i)) (λ e. Fits (type_parts A ++ As) (degrees (i ∷ t)) e.0) (λ r. (r ++ t, 1)) (index_parts A i)
    (λ r g. (are_joined r t (type_parts A) As g.0 h.1, (let e = degrees_joined r t in let low = g.1 in omega (arith, e, low)))) (parts_fit A i h.0)

pub leaves_fit : (A : Type') (As : List Type') (t : List Plain) → AreIndices t (A ∷ As) → Each (λ e. Fits As (degrees t) e.0) (leaves t)
leaves_fit A As [] h = tt
leaves_fit A As (i ∷ t) h = by (deg i == 0)
  where
    by : (b : Bool) → Each {X = List Plain × ℕ} (λ e. Fits As (degrees (i ∷ t)) e.0) (if b then (t, 1) ∷ [] else [])
    by true = ((h.1, omega arith), tt)
    by false = tt

pub joins_fit : (A : Type') (As : List Type') (t : List Plain) → AreIndices t (A ∷ A ∷ As) → Each (λ e. Fits (A ∷ As) (degrees t) e.0) (joins t)
joins_fit A As [] h = tt
joins_fit A As (i ∷ []) h = absurd h.1
joins_fit A As (i ∷ j ∷ t) h =
    each_map (IsTerm i j) (λ e. Fits (A ∷ As) (degrees (i ∷ j ∷ t)) e.0) (λ e. (e.0 ∷ t, e.1)) (tallied (product i j))
    (λ e g. ((g.index A h.0 h.1.0, h.1.1), (let low = g.degree in omega (arith, low)))) (each_all (IsTerm i j) (tallied (product i j)) (product_counted i j A h.0 h.1.0))

-- Parts are worth what they stand for

list_worth : (A : Type') (is : List Plain) (h t : Value) (u : List Plain) (us : List Value) → Has h A →
    total (λ r. 1 * bases (r ++ u) (h ∷ t ∷ us)) (list_parts (zero_of A) is) ≡ base (many is) (Cons h t) * bases u us
list_worth A [] h t u us has = let one = zero_one A h has in grind (arith, one)
list_worth A (i ∷ is) h t u us has =
    regroup (base i h) (base (many is) t) (base (zero_of A) h) (base (many (i ∷ is)) t) (bases u us) (zero_one A h has) ∙ ap (λ n. n * bases u us) (sym (by_value.at_cons i is h t))
  where
    regroup : (a b z m n : ℕ) → z ≡ 1 → 1 * (a * (b * n)) + (1 * (z * (m * n)) + 0) ≡ (a * b + m) * n
    regroup a b z m n one = grind (arith, one)

-- the sum over the cuts of list index entries for two trees
abbrev halves : List (List Plain × List Plain) → Value → Value → ℕ
halves cs l r = total (λ c. base (many c.0) l * base (many c.1) r) cs

at_trees_worth : (i : Plain) (is : List Plain) (a l r : Value) (u : List Plain) (us : List Value) →
    total (λ s. 1 * bases (s ++ u) (a ∷ l ∷ r ∷ us)) (at_trees i is) ≡ (base i a * halves (cuts is) l r) * bases u us
at_trees_worth i is a l r u us = total_map (λ s. 1 * bases (s ++ u) (a ∷ l ∷ r ∷ us)) (λ c. i ∷ many c.0 ∷ many c.1 ∷ []) (cuts is) ∙ each (cuts is)
  where
    each : (cs : List (List Plain × List Plain)) → total (λ c. 1 * (base i a * (base (many c.0) l * (base (many c.1) r * bases u us)))) cs ≡ (base i a * halves cs l r) * bases u us
    each [] = grind arith
    each (c ∷ cs) = let more = each cs in grind (arith, more)

tree_worth : (A : Type') (is : List Plain) (a l r : Value) (u : List Plain) (us : List Value) → Has a A →
    total (λ s. 1 * bases (s ++ u) (a ∷ l ∷ r ∷ us)) (tree_parts (zero_of A) is) ≡ base (many is) (Node a l r) * bases u us
tree_worth A [] a l r u us has = let one = zero_one A a has in at_trees_worth (zero_of A) [] a l r u us ∙ grind (arith, one)
tree_worth A (i ∷ is) a l r u us has =
    let one = zero_one A a has in
    let whole = by_value.at_node i is a l r in
    total_joined (λ s. 1 * bases (s ++ u) (a ∷ l ∷ r ∷ us)) (at_trees i is) (at_trees (zero_of A) (i ∷ is))
    ∙ (λ n. at_trees_worth i is a l r u us n + at_trees_worth (zero_of A) (i ∷ is) a l r u us n)
    ∙ regroup (base i a) (halves (cuts is) l r) (base (zero_of A) a) (halves (cuts (i ∷ is)) l r) (bases u us) one
    ∙ ap (λ n. n * bases u us) (sym whole)
  where
    regroup : (b h z k n : ℕ) → z ≡ 1 → (b * h) * n + (z * k) * n ≡ (b * h + k) * n
    regroup b h z k n one = grind (arith, one)

parts_worth : (A : Type') (i : Plain) (v : Value) (u : List Plain) (us : List Value) → IsIndex i A → Has v A → value_parts v ≢ [] →
    total (λ r. 1 * bases (r ++ u) (value_parts v ++ us)) (index_parts A i) ≡ base i v * bases u us
parts_worth A i (Number n) u us h has some = absurd (some refl)
parts_worth A i (Truth b) u us h has some = absurd (some refl)
parts_worth A i Empty u us h has some = absurd (some refl)
parts_worth (PairOf A B) (Pair i j) (Both v w) u us h has some = grind arith
parts_worth (PairOf A B) i (Both v w) u us h has some = absurd h
parts_worth A i (Both v w) u us h has some = absurd has
parts_worth (ListOf A) i (Cons h t) u us g has some = list_worth A (entries_of i) h t u us has.0 ∙ ap (λ j. base j (Cons h t) * bases u us) (sym (many_of_list A i g))
parts_worth A i (Cons h t) u us g has some = absurd has
parts_worth (TreeOf A) i (Node a l r) u us g has some = tree_worth A (entries_of i) a l r u us has.0 ∙ ap (λ j. base j (Node a l r) * bases u us) (sym (many_of_tree A i g))
parts_worth A i (Node a l r) u us g has some = absurd has
parts_worth (OptionOf A) NoEntry (Just v) u us h has some = let one = zero_one A v has in grind (arith, one)
parts_worth (OptionOf A) (OneEntry i) (Just v) u us h has some = grind arith
parts_worth (OptionOf A) i (Just v) u us h has some = absurd h
parts_worth A i (Just v) u us h has some = absurd has

-- what a tuple is carried to is worth at these values
abbrev pub carried_at : List Value → List (List Plain × ℕ) → ℕ
carried_at vs es = total (λ e. e.1 * bases e.0 vs) es

pub opens_worth : (A : Type') (As : List Type') (v : Value) (t : List Plain) (us : List Value) → Has v A → value_parts v ≢ [] → AreIndices t (A ∷ As) →
    carried_at (value_parts v ++ us) (opens A t) ≡ bases t (v ∷ us)
opens_worth A As v [] us has some h = absurd h
opens_worth A As v (i ∷ t) us has some h =
    total_map (λ e. e.1 * bases e.0 (value_parts v ++ us)) (λ r. (r ++ t, 1)) (index_parts A i) ∙ parts_worth A i v t us h.0 has some

-- no entry stands in an empty list, tree or option
not_zero : (i : Plain) (t : List Plain) (us : List Value) → 0 < deg i → base i Empty ≡ 0 → carried_at us (leaves (i ∷ t)) ≡ bases (i ∷ t) (Empty ∷ us)
not_zero i t us some none = ap (λ b. carried_at us (if b then (t, 1) ∷ [] else [])) (ne_eqb (deg i) 0 (λ e. omega (arith, e, some))) ∙ grind (arith, none)

pub leaves_worth : (A : Type') (As : List Type') (t : List Plain) (us : List Value) → Has Empty A → AreIndices t (A ∷ As) → carried_at us (leaves t) ≡ bases t (Empty ∷ us)
leaves_worth A As [] us has h = absurd h
leaves_worth (ListOf A) As (End ∷ t) us has h = grind arith
leaves_worth (ListOf A) As (Then i r ∷ t) us has h = not_zero (Then i r) t us (omega arith) refl
leaves_worth (ListOf A) As (i ∷ t) us has h = absurd h.0
leaves_worth (TreeOf A) As (End ∷ t) us has h = grind arith
leaves_worth (TreeOf A) As (Then i r ∷ t) us has h = not_zero (Then i r) t us (omega arith) refl
leaves_worth (TreeOf A) As (i ∷ t) us has h = absurd h.0
leaves_worth (OptionOf A) As (NoEntry ∷ t) us has h = grind arith
leaves_worth (OptionOf A) As (OneEntry i ∷ t) us has h = not_zero (OneEntry i) t us (omega arith) refl
leaves_worth (OptionOf A) As (i ∷ t) us has h = absurd h.0
leaves_worth A As (i ∷ t) us has h = absurd has

pub leaves_lower : (A : Type') (As : List Type') (v : Value) (t : List Plain) (us : List Value) → Has v A → AreIndices t (A ∷ As) → carried_at us (leaves t) ≤ bases t (v ∷ us)
leaves_lower A As v [] us has h = absurd h
leaves_lower A As v (i ∷ t) us has h = by (deg i == 0) refl
  where
    by : (b : Bool) → (deg i == 0) ≡ b → carried_at us (if b then (t, 1) ∷ [] else []) ≤ base i v * bases t us
    by true e =
        let zero = types_have_zero A in
        let one = ap (λ j. base j v) (zero.only i h.0 (eqb-true _ _ e)) ∙ zero.one v has in
        let same : base i v * bases t us ≡ bases t us = grind (arith, one) in omega (arith, same)
    by false e = omega arith

-- of the zero index the rest stays
pub leaves_zero : (A : Type') (As : List Type') (v : Value) (i : Plain) (t : List Plain) (us : List Value) → Has v A → IsIndex i A →
    carried_at us (leaves (i ∷ t)) ≡ (if deg i == 0 then bases (i ∷ t) (v ∷ us) else 0)
leaves_zero A As v i t us has h = by (deg i == 0) refl
  where
    by : (b : Bool) → (deg i == 0) ≡ b → carried_at us (if b then (t, 1) ∷ [] else []) ≡ (if b then base i v * bases t us else 0)
    by true e =
        let zero = types_have_zero A in
        let one = ap (λ j. base j v) (zero.only i h (eqb-true _ _ e)) ∙ zero.one v has in grind (arith, one)
    by false e = refl

pub joins_worth : (A : Type') (As : List Type') (v : Value) (t : List Plain) (us : List Value) → AreIndices t (A ∷ A ∷ As) → carried_at (v ∷ us) (joins t) ≡ bases t (v ∷ v ∷ us)
joins_worth A As v [] us h = absurd h
joins_worth A As v (i ∷ []) us h = absurd h.1
joins_worth A As v (i ∷ j ∷ t) us h = each (tallied (product i j)) ∙ ap (λ n. n * bases t us) (sym (product_weighed i j A h.0 h.1.0 v)) ∙ regroup (base i v) (base j v) (bases t us)
  where
    regroup : (a b n : ℕ) → (a * b) * n ≡ a * (b * n)
    regroup a b n = grind arith

    each : (es : List (Plain × ℕ)) → carried_at (v ∷ us) (map (λ e. (e.0 ∷ t, e.1)) es) ≡ counted_worth v es * bases t us
    each [] = grind arith
    each (e ∷ es) = let more = each es in grind (arith, more)
