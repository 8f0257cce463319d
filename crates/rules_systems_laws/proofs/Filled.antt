-- Lists that are cut, and put at components.
use Rattle.std.proofs.Common.{◌≡◌, refl, ap, sym, ◌∙◌, arith, ⊎_elim, subst}
use Rattle.std.specs.Prelude.{ℕ, zero, suc, ◌+◌, List, [], ◌∷◌, ◌++◌, map, length, slice_get, Option, None, Some}
use Rattle.std.proofs.lemmas.List.{length-append}
use Rattle.raml_syntax.specs.Tree.{Type', Integer, Boolean, PairOf, ListOf, TreeOf, OptionOf}
use Rattle.base_poly.specs.Plain.{Plain, End, Then, many, entries_of, deg}
use Rattle.base_poly.specs.Indices.{IsIndex}
use Rattle.base_poly.specs.Laws.{cuts}
use Rattle.base_poly.proofs.Among.{Among, among_mapped, among_part}
use Rattle.base_poly.proofs.Longer.{zero_is_index, zero_degree}
use Rattle.cost_free.specs.Target.{components, pieces, piece_at, piece_or_zero, filled}

-- Pieces

-- the degree of a list index with these entries
unfoldable pub degree : List Plain → ℕ
degree [] = 0
degree (i ∷ is) = 1 + deg i + degree is

pub many_degree : (is : List Plain) → deg (many is) ≡ degree is
unfolding degree
many_degree [] = refl
many_degree (i ∷ is) = ap (λ n. 1 + deg i + n) (many_degree is)

degree_append : (is js : List Plain) → degree (is ++ js) ≡ degree is + degree js
unfolding degree
degree_append [] js = omega arith
degree_append (i ∷ is) js = let h = degree_append is js in omega (arith, h)

unfoldable pub degree_all : List (List Plain) → ℕ
degree_all [] = 0
degree_all (x ∷ xs) = degree x + degree_all xs

-- all are indices of the type
unfoldable pub AllIndices : Type' → List Plain → Type 0
AllIndices E [] = Unit {0}
AllIndices E (i ∷ is) = IsIndex i E × AllIndices E is

indices_back : (E : Type') (is js : List Plain) → AllIndices E (is ++ js) → AllIndices E is × AllIndices E js
unfolding AllIndices
indices_back E [] js h = (tt, h)
indices_back E (i ∷ is) js h = let r = indices_back E is js h.1 in ((h.0, r.0), r.1)

unfoldable pub AllAll : Type' → List (List Plain) → Type 0
AllAll E [] = Unit {0}
AllAll E (x ∷ xs) = AllIndices E x × AllAll E xs

many_list : (E : Type') (is : List Plain) → AllIndices E is → IsIndex (many is) (ListOf E)
unfolding AllIndices
many_list E [] h = tt
many_list E (i ∷ is) h = (h.0, many_list E is h.1)

many_tree : (E : Type') (is : List Plain) → AllIndices E is → IsIndex (many is) (TreeOf E)
unfolding AllIndices
many_tree E [] h = tt
many_tree E (i ∷ is) h = (h.0, many_tree E is h.1)

pub entries_index : (E : Type') (l : Plain) → IsIndex l (ListOf E) → AllIndices E (entries_of l)
unfolding AllIndices
entries_index E End h = tt
entries_index E (Then i r) h = (h.0, entries_index E r h.1)
entries_index E _ h = absurd h

abbrev joins : List Plain × List Plain → List Plain
joins c = c.0 ++ c.1

pub cut_joins : (is : List Plain) (c : List Plain × List Plain) → Among c (cuts is) → c.0 ++ c.1 ≡ is
cut_joins [] c h = ⊎_elim (λ e. ap joins (sym e)) (λ g. absurd g) h
cut_joins (i ∷ is) c h = ⊎_elim
    (λ e. ap joins (sym e))
    (λ g. let m = among_mapped (λ c. (i ∷ c.0, c.1)) c (cuts is) g in ap joins (sym m.2) ∙ ap (λ l. i ∷ l) (cut_joins is m.0 m.1)) h

-- of the pieces of a list
pub record ArePieces (E : Type') (n : ℕ) (is : List Plain) (xs : List (List Plain)) : Type 0 where
  pub many : length xs ≡ n
  pub sum : degree_all xs ≡ degree is
  pub indices : AllIndices E is → AllAll E xs

pub are_pieces : (E : Type') (n : ℕ) (is : List Plain) (xs : List (List Plain)) → Among xs (pieces n is) → ArePieces E n is xs
unfolding degree degree_all AllIndices AllAll
are_pieces E zero [] xs h = ⊎_elim (λ e. subst (ArePieces E zero []) e (record { many = refl; sum = refl; indices = λ k. tt })) (λ g. absurd g) h
are_pieces E zero (i ∷ is) xs h = absurd h
are_pieces E (suc n) is xs h =
    let c = among_part (λ c. map (λ p. c.0 ∷ p) (pieces n c.1)) xs (cuts is) h in
    let p = among_mapped (λ p. c.0.0 ∷ p) xs (pieces n c.0.1) c.2 in
    let rest = are_pieces E n c.0.1 p.0 p.1 in
    let whole = cut_joins is c.0 c.1 in
    subst (ArePieces E (suc n) is) p.2 (record {
      many = ap suc rest.many;
      sum = ap (λ m. degree c.0.0 + m) rest.sum ∙ sym (degree_append c.0.0 c.0.1) ∙ ap degree whole;
      indices = λ k. let both = indices_back E c.0.0 c.0.1 (subst (AllIndices E) (sym whole) k) in (both.0, rest.indices both.1);
    })

-- Components

-- what may stand at a component
unfoldable pub Fits : Type' → Option (List Plain) → Type 0
Fits A None = Unit {0}
Fits (ListOf E) (Some x) = AllIndices E x
Fits (TreeOf E) (Some x) = AllIndices E x
Fits _ (Some x) = ⊥

unfoldable pub size_of : Option (List Plain) → ℕ
size_of None = 0
size_of (Some x) = degree x

unfoldable pub sum_from : (ℕ → ℕ) → ℕ → ℕ → ℕ
sum_from f from zero = 0
sum_from f from (suc n) = f from + sum_from f (suc from) n

sum_split : (f : ℕ → ℕ) (from m n : ℕ) → sum_from f from (m + n) ≡ sum_from f from m + sum_from f (from + m) n
unfolding sum_from
sum_split f from zero n = (λ i. sum_from f (here from i) (none n i)) ∙ omega arith where
  here : (a : ℕ) → a ≡ a + 0
  here a = omega arith

  none : (a : ℕ) → 0 + a ≡ a
  none a = omega arith
sum_split f from (suc m) n =
    ap (sum_from f from) (one m n) ∙ ap (λ k. f from + k) (sum_split f (suc from) m n ∙ ap (λ j. sum_from f (suc from) m + sum_from f j n) (next from m)) ∙ omega arith where
      one : (a b : ℕ) → suc a + b ≡ suc (a + b)
      one a b = omega arith

      next : (a b : ℕ) → suc a + b ≡ a + suc b
      next a b = omega arith

get_front : {X : Type 0} (xs ys : List X) (k : ℕ) (x : X) → slice_get xs k ≡ Some x → slice_get (xs ++ ys) k ≡ Some x
get_front [] ys k x e = absurd (cc)
get_front (y ∷ xs) ys zero x e = e
get_front (y ∷ xs) ys (suc k) x e = get_front xs ys k x e

get_behind : {X : Type 0} (xs ys : List X) (k : ℕ) → slice_get (xs ++ ys) (length xs + k) ≡ slice_get ys k
get_behind [] ys k = ap (slice_get ys) (omega arith)
get_behind (x ∷ xs) ys k = ap (slice_get (x ∷ (xs ++ ys))) (let e : suc (length xs) + k ≡ suc (length xs + k) = omega arith in e) ∙ get_behind xs ys k

module _ (places : List ℕ) (xs : List (List Plain)) where
  unfoldable pub piece : ℕ → Option (List Plain)
  piece k = piece_at k places xs

  unfoldable pub AllFit : Type' → ℕ → Type 0
  AllFit A k = (i : ℕ) (C : Type') → slice_get (components A) i ≡ Some C → Fits C (piece (k + i))

  -- where a component alone fits
  one_index : (A : Type') (o : Option (List Plain)) → Fits A o → IsIndex (piece_or_zero A o) A × (deg (piece_or_zero A o) ≡ size_of o)
  unfolding Fits size_of
  one_index A None h = (zero_is_index A, zero_degree A)
  one_index (ListOf E) (Some x) h = (many_list E x h, many_degree x)
  one_index (TreeOf E) (Some x) h = (many_tree E x h, many_degree x)
  one_index _ (Some x) h = absurd h

  alone : (A : Type') (k : ℕ) → Fits A (piece (k + 0)) → IsIndex (piece_or_zero A (piece k)) A × (deg (piece_or_zero A (piece k)) ≡ sum_from (λ j. size_of (piece j)) k 1)
  unfolding sum_from
  alone A k h =
      let r = one_index A (piece k) (subst (λ j. Fits A (piece j)) (let e : k + 0 ≡ k = omega arith in e) h) in
      (r.0, r.1 ∙ (let e : size_of (piece k) ≡ size_of (piece k) + 0 = omega arith in e))

  pub filled_fits : (A : Type') (k : ℕ) → AllFit A k → IsIndex (filled A k places xs) A × (deg (filled A k places xs) ≡ sum_from (λ j. size_of (piece j)) k (length (components A)))
  unfolding piece AllFit
  filled_fits (PairOf A B) k h =
      let a = filled_fits A k (λ i C e. h i C (get_front (components A) (components B) i C e)) in
      let b = filled_fits B (k + length (components A)) (λ i C e. subst (λ j. Fits C (piece_at j places xs)) (let p : k + (length (components A) + i) ≡ k + length (components A) + i = omega arith in p)
      (h (length (components A) + i) C (get_behind (components A) (components B) i ∙ e))) in (
        (a.0, b.0),
        (λ i. a.1 i + b.1 i) ∙ sym (sum_split (λ j. size_of (piece_at j places xs)) k (length (components A)) (length (components B)))
            ∙ ap (sum_from (λ j. size_of (piece_at j places xs)) k) (sym (length-append (components A) (components B))),
      )
  filled_fits Integer k h = alone Integer k (h 0 Integer refl)
  filled_fits Boolean k h = alone Boolean k (h 0 Boolean refl)
  filled_fits (ListOf E) k h = alone (ListOf E) k (h 0 (ListOf E) refl)
  filled_fits (TreeOf E) k h = alone (TreeOf E) k (h 0 (TreeOf E) refl)
  filled_fits (OptionOf E) k h = alone (OptionOf E) k (h 0 (OptionOf E) refl)
