-- Degrees where a type has one index, of degree 0: lists of it have one index of each length.
use Rattle.std.proofs.Common.{◌≡◌, ◌≤◌, ◌<◌, ℕ, zero, suc, ◌+◌, ◌-◌, cond, List, [], ◌∷◌, ◌++◌, map, length, refl, sym, ap, ◌∙◌, arith, append-nil, append_assoc}
use Rattle.std.specs.List.{range_with_len}
use Rattle.std.proofs.lemmas.List.{length-map}
use Rattle.std.proofs.lemmas.List.FromFn.{length-range_with_len}
use Rattle.std.proofs.lemmas.Bool.{le-leb}
use Rattle.raml_syntax.specs.declared.ty.Ty.{Ty}
use Rattle.raml_syntax.specs.Tree.{Type'}
use Rattle.base_poly.specs.Plain.{Plain, Unit', many, deg, degrees}
use Rattle.base_poly.specs.Indices.{tuples_led, lists, indices_up_to, tuples_up_to}
use Rattle.base_poly.specs.Read.{context_of}
use Rattle.base_poly.specs.Sizes.{sums_behind, list_sums}
use Rattle.base_poly.proofs.Sized.{list_indices_sized}

-- one more of a range

pub range_more : (k n : ℕ) → k < n → range_with_len k (n - k) ≡ k ∷ range_with_len (k + 1) (n - (k + 1))
range_more k n h = ap (range_with_len k) less
  where
    less : n - k ≡ suc (n - (k + 1))
    less = omega (arith, h)

pub range_step : (old new whole : List ℕ) (k n : ℕ) → k < n → new ≡ old ++ k ∷ [] → old ++ range_with_len k (n - k) ≡ whole → new ++ range_with_len (k + 1) (n - (k + 1)) ≡ whole
range_step old new whole k n h made done =
    ap (λ l. l ++ range_with_len (k + 1) (n - (k + 1))) made ∙ append_assoc old (k ∷ []) (range_with_len (k + 1) (n - (k + 1))) ∙ ap (λ l. old ++ l) (sym (range_more k n h)) ∙ done

range_snoc : (a n : ℕ) → range_with_len a n ++ (a + n) ∷ [] ≡ range_with_len a (suc n)
range_snoc a zero = ap (λ k. k ∷ []) same
  where
    same : a + 0 ≡ a
    same = omega arith
range_snoc a (suc n) = ap (λ l. a ∷ l) (ap (λ k. range_with_len (a + 1) n ++ k ∷ []) same ∙ range_snoc (a + 1) n)
  where
    same : a + suc n ≡ a + 1 + n
    same = omega arith

pub range_ended : (found : List ℕ) (k n : ℕ) → n ≤ k → found ++ range_with_len k (n - k) ≡ range_with_len 0 n → found ++ n ∷ [] ≡ range_with_len 0 (1 + n)
range_ended found k n h done =
    (λ i. (sym (append-nil found) ∙ ap (λ m. found ++ range_with_len k m) none ∙ done) i ++ same i ∷ []) ∙ range_snoc 0 n ∙ ap (range_with_len 0) next
  where
    none : 0 ≡ n - k
    none = omega (arith, h)

    same : n ≡ 0 + n
    same = omega arith

    next : suc n ≡ 1 + n
    next = omega arith

-- lists whose entries count for their place alone

one_behind : (d s n : ℕ) → s + n ≤ d → sums_behind 1 d (range_with_len s n) ≡ range_with_len (s + 1) n
one_behind d s zero h = refl
one_behind d s (suc n) h =
    (λ i. cond (le-leb (1 + s) d (omega (arith, h)) i) ((1 + s) ∷ one_behind d (s + 1) n (omega (arith, h)) i) (one_behind d (s + 1) n (omega (arith, h)) i))
    ∙ ap (λ k. k ∷ range_with_len (s + 1 + 1) n) next
  where
    next : 1 + s ≡ s + 1
    next = omega arith

one_entry : (d : ℕ) → list_sums (0 ∷ []) d ≡ range_with_len 0 (suc d)
one_entry zero = refl
one_entry (suc d) =
    ap (λ l. 0 ∷ l) (append-nil (sums_behind 1 (suc d) (list_sums (0 ∷ []) d)) ∙ ap (sums_behind 1 (suc d)) (one_entry d) ∙ one_behind (suc d) 0 (suc d) (omega arith))

abbrev pub HasOne : Type' → Type 0
HasOne A = (g : ℕ) → indices_up_to A g ≡ Unit' ∷ []

pub lengths_sized : (A : Type') (d : ℕ) → HasOne A → map deg (map many (lists (indices_up_to A) d d)) ≡ range_with_len 0 (1 + d)
lengths_sized A zero h = refl
lengths_sized A (suc d) h =
    list_indices_sized A (suc d) (omega arith) ∙ ap (λ is. list_sums (map deg is) (suc d)) (h (suc d - 1)) ∙ one_entry (suc d) ∙ ap (range_with_len 0) next
  where
    next : suc (suc d) ≡ 1 + suc d
    next = omega arith

pub as_many_lengths : (A : Type') (d : ℕ) → HasOne A → length (map many (lists (indices_up_to A) d d)) ≡ 1 + d
as_many_lengths A d h =
    sym (length-map (map many (lists (indices_up_to A) d d)) deg) ∙ ap length (lengths_sized A d h) ∙ length-range_with_len 0 (1 + d)

-- a type with one index adds nothing to the others

pub rests_sized : (A : Type') (As : List Type') (d : ℕ) → HasOne A → map degrees (tuples_led (tuples_up_to As) d (indices_up_to A d)) ≡ map degrees (tuples_up_to As d)
rests_sized A As d h =
    ap (λ firsts. map degrees (tuples_led (tuples_up_to As) d firsts)) (h d)
    ∙ ap (map degrees) (append-nil (map (λ r. Unit' ∷ r) (tuples_up_to As (d - 0)))) ∙ led (tuples_up_to As (d - 0)) ∙ ap (λ g. map degrees (tuples_up_to As g)) whole
  where
    led : (ts : List (List Plain)) → map degrees (map (λ r. Unit' ∷ r) ts) ≡ map degrees ts
    led [] = refl
    led (t ∷ ts) = λ i. none i ∷ led ts i
      where
        none : 0 + degrees t ≡ degrees t
        none = omega arith

    whole : d - 0 ≡ d
    whole = omega arith

-- with no others its tuples are its indices

pub alone_sized : (types : List Ty) (d : ℕ) (is : List Plain) → length types < 1 → map degrees (tuples_led (tuples_up_to (context_of types)) d is) ≡ map deg is
alone_sized [] d [] h = refl
alone_sized [] d (i ∷ is) h = λ n. alone n ∷ alone_sized [] d is h n
  where
    alone : deg i + 0 ≡ deg i
    alone = omega arith
alone_sized (A ∷ As) d is h = absurd (omega (arith, h))

-- the same degrees are those of as many

pub same_length : {X Y : Type 0} (f : X → ℕ) (g : Y → ℕ) (xs : List X) (ys : List Y) → map f xs ≡ map g ys → length xs ≡ length ys
same_length f g xs ys same = sym (length-map xs f) ∙ ap length same ∙ length-map ys g
