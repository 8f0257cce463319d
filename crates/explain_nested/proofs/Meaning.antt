-- A reading means what the base polynomial counts.
use Rattle.std.proofs.Common.{◌≡◌, ◌≤◌, ◌<◌, ℕ, zero, suc, ◌+◌, ◌*◌, Bool, true, false, cond, List, [], ◌∷◌, ◌++◌, length, All, refl, sym, ap, subst, ◌∙◌, arith, length-append, append_assoc, append-nil}
use Rattle.std.proofs.lemmas.List.Elements.{All-head, All-tail}
use Rattle.raml_syntax.specs.Tree.{Type', PairOf, ListOf, TreeOf, OptionOf}
use Rattle.raml_syntax.specs.Value.{Value, Has, HaveTypes, Both, Empty, Just}
use Rattle.base_poly.specs.Plain.{Plain, Unit', Pair, End, Then, NoEntry, OneEntry, many, deg, degrees, entry_count}
use Rattle.base_poly.specs.Indices.{IsIndex, AreIndices}
use Rattle.base_poly.specs.Base.{total, elements, choices, base, along, over, bases, on_content}
use Rattle.base_poly.specs.Poly.{Term}
use Rattle.base_poly.proofs.Sums.{total_scaled}
use Rattle.poly_point.specs.Point.{worth}
use Rattle.explain_nested.specs.Reading.{Place, Named, First, Second, Piece, Choices, Elements, Held, first_part, second_part, numbered, value_at, meaning, names_in, both, are_zero, reading, entries_reading, tuple_reading}
use Rattle.explain_nested.specs.Laws.{MeansWhatCounts}
use Rattle.explain_nested.proofs.Chosen.{Have, list_has, tree_has, total_chosen, over_plain}

-- Names that stay

abbrev root : Place → ℕ
root (Named k) = k
root (First p) = root p
root (Second p) = root p

numbered_stays : (k : ℕ) (vs xs : List Value) → k < length vs → numbered k (vs ++ xs) ≡ numbered k vs
numbered_stays k [] xs h = absurd (omega (arith, h))
numbered_stays zero (v ∷ vs) xs h = refl
numbered_stays (suc k) (v ∷ vs) xs h = numbered_stays k vs xs (omega (arith, h))

stays : (p : Place) (vs xs : List Value) → root p < length vs → value_at p (vs ++ xs) ≡ value_at p vs
stays (Named k) vs xs h = numbered_stays k vs xs h
stays (First p) vs xs h = ap first_part (stays p vs xs h)
stays (Second p) vs xs h = ap second_part (stays p vs xs h)

-- the values stand from the number on
abbrev Stand : ℕ → List Value → List Value → Type 0
Stand m [] vs = Unit {0}
Stand m (x ∷ xs) vs = (m < length vs) × (numbered m vs ≡ x) × Stand (suc m) xs vs

stand_more : (m : ℕ) (xs vs ys : List Value) → Stand m xs vs → Stand m xs (vs ++ ys)
stand_more m [] vs ys h = tt
stand_more m (x ∷ xs) vs ys h = let long = length-append vs ys in (omega (arith, h.0, long), numbered_stays m vs ys h.0 ∙ h.1, stand_more (suc m) xs vs ys h.2)

last_named : (vs : List Value) (x : Value) → numbered (length vs) (vs ++ x ∷ []) ≡ x
last_named [] x = refl
last_named (v ∷ vs) x = last_named vs x

stand_behind : (xs vs : List Value) (m : ℕ) → m ≡ length vs → Stand m xs (vs ++ xs)
stand_behind [] vs m e = tt
stand_behind (x ∷ xs) vs m e =
    let one = length-append vs (x ∷ []) in
    let front = stand_more m (x ∷ []) (vs ++ x ∷ []) xs (omega (arith, e, one), ap (λ k. numbered k (vs ++ x ∷ [])) e ∙ last_named vs x, tt) in
    let same : (vs ++ x ∷ []) ++ xs ≡ vs ++ x ∷ xs = append_assoc vs (x ∷ []) xs in
    let rest = stand_behind xs (vs ++ x ∷ []) (suc m) (omega (arith, e, one)) in
    subst (Stand m (x ∷ xs)) same (front.0, front.1, rest)

-- Readings one behind the other

pub names_joined : (a b : List Piece) → names_in (a ++ b) ≡ names_in a + names_in b
names_joined [] b = omega arith
names_joined (Choices p k ∷ a) b = names_joined a b
names_joined (Elements p k ∷ a) b = let more = names_joined a b in omega (arith, more)
names_joined (Held p ∷ a) b = let more = names_joined a b in omega (arith, more)

-- what stands behind means K at these values and any others of this number
abbrev Rests : ℕ → List Piece → ℕ → List Value → Type 0
Rests names rest K vs = (xs : List Value) → length xs ≡ names → meaning rest (vs ++ xs) ≡ K

rests_here : (rest : List Piece) (K : ℕ) (vs : List Value) → Rests 0 rest K vs → meaning rest vs ≡ K
rests_here rest K vs h = ap (meaning rest) (sym (append-nil vs)) ∙ h [] refl

rests_more : (a b : ℕ) (rest : List Piece) (K : ℕ) (vs xs : List Value) → Rests (a + b) rest K vs → length xs ≡ a → Rests b rest K (vs ++ xs)
rests_more a b rest K vs xs h e = λ ys f.
    let long = length-append xs ys in
    ap (meaning rest) (append_assoc vs xs ys) ∙ h (xs ++ ys) (omega (arith, long, e, f))

module _ (r s : ℕ → List Piece) (a b : ℕ) (vs : List Value)
    (first : (n : ℕ) (rest : List Piece) (K : ℕ) → n ≡ length vs → Rests (names_in (r n)) rest K vs → meaning (r n ++ rest) vs ≡ a * K)
    (second : (xs : List Value) (n : ℕ) (rest : List Piece) (K : ℕ) → n ≡ length (vs ++ xs) → Rests (names_in (s n)) rest K (vs ++ xs) → meaning (s n ++ rest) (vs ++ xs) ≡ b * K) where
  both_are : (n : ℕ) (rest : List Piece) (K : ℕ) → n ≡ length vs → Rests (names_in (both r s n)) rest K vs → meaning (both r s n ++ rest) vs ≡ (a * b) * K
  both_are n rest K e h =
      ap (λ l. meaning l vs) (append_assoc (r n) (s (n + names_in (r n))) rest) ∙ first n (s (n + names_in (r n)) ++ rest) (b * K) e later ∙ grind arith
    where
      later : Rests (names_in (r n)) (s (n + names_in (r n)) ++ rest) (b * K) vs
      later = λ xs l.
          let long = length-append vs xs in
          second xs (n + names_in (r n)) rest K (omega (arith, e, l, long))
          (rests_more (names_in (r n)) (names_in (s (n + names_in (r n)))) rest K vs xs
          (subst (λ k. Rests k rest K vs) (names_joined (r n) (s (n + names_in (r n)))) h) l)

-- The reading of an index at a value means what its base polynomial counts there, times what stands behind it.
abbrev IndexReads : Plain → Type 0
IndexReads i =
    (A : Type') (p : Place) (vs : List Value) → IsIndex i A → Has (value_at p vs) A → root p < length vs →
    (n : ℕ) (rest : List Piece) (K : ℕ) → n ≡ length vs → Rests (names_in (reading i p n)) rest K vs →
    meaning (reading i p n ++ rest) vs ≡ base i (value_at p vs) * K

-- each entry is an index of a type that the value at its place has
abbrev Fit : Plain → List Value → Type 0
Fit (Then i r) (x ∷ xs) = ((A : Type') × IsIndex i A × Has x A) × Fit r xs
Fit (Then i r) [] = ⊥
Fit r xs = Unit {0}

abbrev EntriesRead : Plain → Type 0
EntriesRead r =
    (xs : List Value) (m : ℕ) (vs : List Value) → Fit r xs → Stand m xs vs →
    (n : ℕ) (rest : List Piece) (K : ℕ) → n ≡ length vs → Rests (names_in (entries_reading r m n)) rest K vs →
    meaning (entries_reading r m n ++ rest) vs ≡ along r xs * K

one_times : (rest : List Piece) (K : ℕ) (vs : List Value) → Rests 0 rest K vs → meaning rest vs ≡ 1 * K
one_times rest K vs h = rests_here rest K vs h ∙ omega arith

-- Lists and trees

module _ (i r : Plain) (reads : IndexReads i) (entries : EntriesRead r) where
  entry_more : (x : Value) (xs : List Value) (m : ℕ) (vs : List Value) → Fit (Then i r) (x ∷ xs) → Stand m (x ∷ xs) vs →
      (n : ℕ) (rest : List Piece) (K : ℕ) → n ≡ length vs → Rests (names_in (both (reading i (Named m)) (entries_reading r (suc m)) n)) rest K vs →
      meaning (both (reading i (Named m)) (entries_reading r (suc m)) n ++ rest) vs ≡ along (Then i r) (x ∷ xs) * K
  entry_more x xs m vs fit stand =
      both_are (reading i (Named m)) (entries_reading r (suc m)) (base i x) (along r xs) vs
      (λ n rest K e h. reads fit.0.0 (Named m) vs fit.0.1 (subst (λ v. Has v fit.0.0) (sym stand.1) fit.0.2) stand.0 n rest K e h ∙ ap (λ v. base i v * K) stand.1)
      (λ ys n rest K e h. entries xs (suc m) (vs ++ ys) fit.1 (stand_more (suc m) xs vs ys stand.2) n rest K e h)

  module _ (A : Type') where
    fit_have : (r : Plain) (xs : List Value) → IsIndex r (ListOf A) → length xs ≡ entry_count r → Have A xs → Fit r xs
    fit_have End xs m l t = tt
    fit_have (Then i r) [] m l t = absurd (omega (arith, l))
    fit_have (Then i r) (x ∷ xs) m l t = ((A, m.0, t.0), fit_have r xs m.1 (omega (arith, l)) t.1)
    fit_have r xs m l t = absurd m

    -- at elements of one type
    elements_read : (es : List Value) (vs : List Value) → IsIndex (Then i r) (ListOf A) → Have A es →
        (n : ℕ) (rest : List Piece) (K : ℕ) → n ≡ length vs →
        Rests (suc (entry_count r) + names_in (both (reading i (Named n)) (entries_reading r (suc n)) (n + suc (entry_count r)))) rest K vs →
        total (λ xs. meaning (both (reading i (Named n)) (entries_reading r (suc n)) (n + suc (entry_count r)) ++ rest) (vs ++ xs)) (choices (suc (entry_count r)) es)
        ≡ over (Then i r) es * K
    elements_read es vs m t n rest K e h =
        total_chosen A (suc (entry_count r)) f g es t same ∙ total_scaled K (along (Then i r)) (choices (suc (entry_count r)) es) ∙ grind arith
      where
        f : List Value → ℕ
        f xs = meaning (both (reading i (Named n)) (entries_reading r (suc n)) (n + suc (entry_count r)) ++ rest) (vs ++ xs)

        g : List Value → ℕ
        g xs = K * along (Then i r) xs

        same : (xs : List Value) → length xs ≡ suc (entry_count r) → Have A xs → f xs ≡ g xs
        same [] l t = absurd (omega (arith, l))
        same (x ∷ xs) l t =
            let long = length-append vs (x ∷ xs) in
            entry_more x xs n (vs ++ x ∷ xs) (fit_have (Then i r) (x ∷ xs) m l t) (stand_behind (x ∷ xs) vs n e) (n + suc (entry_count r)) rest K
            (omega (arith, long, e, l)) (rests_more (suc (entry_count r)) _ rest K vs (x ∷ xs) h l) ∙ grind arith

    list_read : (p : Place) (vs : List Value) → IsIndex (Then i r) (ListOf A) → Have A (elements (value_at p vs)) →
        (n : ℕ) (rest : List Piece) (K : ℕ) → n ≡ length vs → Rests (names_in (reading (Then i r) p n)) rest K vs →
        meaning (reading (Then i r) p n ++ rest) vs ≡ over (Then i r) (elements (value_at p vs)) * K
    list_read p vs m t n rest K e h = by (are_zero (Then i r)) (λ d. d) h
      where
        behind : List Piece
        behind = both (reading i (Named n)) (entries_reading r (suc n)) (n + suc (entry_count r))

        by : (b : Bool) → (b ≡ true → are_zero (Then i r) ≡ true) →
            Rests (names_in (cond b (Choices p (suc (entry_count r)) ∷ []) (Elements p (suc (entry_count r)) ∷ behind))) rest K vs →
            meaning (cond b (Choices p (suc (entry_count r)) ∷ []) (Elements p (suc (entry_count r)) ∷ behind) ++ rest) vs
            ≡ over (Then i r) (elements (value_at p vs)) * K
        by true d h = λ k. sym (over_plain A (Then i r) (elements (value_at p vs)) m t (d refl)) k * rests_here rest K vs h k
        by false d h = elements_read (elements (value_at p vs)) vs m t n rest K e h

list_index : (A : Type') (r : Plain) → IsIndex r (TreeOf A) → IsIndex r (ListOf A)
list_index A End m = tt
list_index A (Then i r) m = (m.0, list_index A r m.1)
list_index A x m = absurd m

-- Options

option_read : (i : Plain) → IndexReads i → (A : Type') (p : Place) (vs : List Value) → IsIndex i A → Has (value_at p vs) (OptionOf A) →
    (n : ℕ) (rest : List Piece) (K : ℕ) → n ≡ length vs → Rests (names_in (reading (OneEntry i) p n)) rest K vs →
    meaning (reading (OneEntry i) p n ++ rest) vs ≡ base (OneEntry i) (value_at p vs) * K
option_read i reads A p vs m t n rest K e h = at (value_at p vs) t
  where
    at : (v : Value) → Has v (OptionOf A) → on_content (λ x. meaning (reading i (Named n) (suc n) ++ rest) (vs ++ x ∷ [])) v ≡ on_content (base i) v * K
    at Empty t = omega arith
    at (Just w) t =
        let long = length-append vs (w ∷ []) in
        let here : numbered n (vs ++ w ∷ []) ≡ w = ap (λ k. numbered k (vs ++ w ∷ [])) e ∙ last_named vs w in
        reads A (Named n) (vs ++ w ∷ []) m (subst (λ v. Has v A) (sym here) t) (omega (arith, long, e)) (suc n) rest K (omega (arith, long, e))
        (rests_more 1 (names_in (reading i (Named n) (suc n))) rest K vs (w ∷ []) h refl)
        ∙ ap (λ v. base i v * K) here
    at v t = absurd t

-- Pairs

record ArePair (A B : Type') (i j : Plain) (v : Value) : Type 0 where
  first : Has (first_part v) A
  second : Has (second_part v) B
  counts : base i (first_part v) * base j (second_part v) ≡ base (Pair i j) v

are_pair : (A B : Type') (i j : Plain) (v : Value) → Has v (PairOf A B) → ArePair A B i j v
are_pair A B i j (Both v w) t = record { first = t.0; second = t.1; counts = refl }
are_pair A B i j v t = absurd t

pair_read : (i j : Plain) → IndexReads i → IndexReads j → (A B : Type') (p : Place) (vs : List Value) → IsIndex i A → IsIndex j B →
    Has (value_at p vs) (PairOf A B) → root p < length vs →
    (n : ℕ) (rest : List Piece) (K : ℕ) → n ≡ length vs → Rests (names_in (reading (Pair i j) p n)) rest K vs →
    meaning (reading (Pair i j) p n ++ rest) vs ≡ base (Pair i j) (value_at p vs) * K
pair_read i j reads_i reads_j A B p vs mi mj t s n rest K e h =
    let pair = are_pair A B i j (value_at p vs) t in
    both_are (reading i (First p)) (reading j (Second p)) (base i (value_at (First p) vs)) (base j (value_at (Second p) vs)) vs
    (λ n rest K e h. reads_i A (First p) vs mi pair.first s n rest K e h)
    (λ xs n rest K e h.
    let long = length-append vs xs in
    let same = stays (Second p) vs xs s in
    reads_j B (Second p) (vs ++ xs) mj (subst (λ v. Has v B) (sym same) pair.second) (omega (arith, long, s)) n rest K e h ∙ ap (λ v. base j v * K) same)
    n rest K e h
    ∙ ap (λ k. k * K) pair.counts

mutual
  index_reads : (i : Plain) → IndexReads i
  index_reads (Pair i j) (PairOf A B) p vs m t s n rest K e h = pair_read i j (index_reads i) (index_reads j) A B p vs m.0 m.1 t s n rest K e h
  index_reads (Then i r) (ListOf A) p vs m t s n rest K e h = list_read i r (index_reads i) (entries_read r) A p vs m (list_has A (value_at p vs) t) n rest K e h
  index_reads (Then i r) (TreeOf A) p vs m t s n rest K e h =
      list_read i r (index_reads i) (entries_read r) A p vs (list_index A (Then i r) m) (tree_has A (value_at p vs) t) n rest K e h
  index_reads (OneEntry i) (OptionOf A) p vs m t s n rest K e h = option_read i (index_reads i) A p vs m t n rest K e h
  index_reads Unit' A p vs m t s n rest K e h = one_times rest K vs h
  index_reads End A p vs m t s n rest K e h = one_times rest K vs h
  index_reads NoEntry A p vs m t s n rest K e h = one_times rest K vs h
  index_reads i A p vs m t s n rest K e h = absurd m

  entries_read : (r : Plain) → EntriesRead r
  entries_read (Then i r) [] m vs fit stand n rest K e h = absurd fit
  entries_read (Then i r) (x ∷ xs) m vs fit stand n rest K e h = entry_more i r (index_reads i) (entries_read r) x xs m vs fit stand n rest K e h
  entries_read r xs m vs fit stand n rest K e h = one_times rest K vs h

-- Tuples and polynomials

tuple_fits : (is : List Plain) (As : List Type') (vs : List Value) → AreIndices is As → HaveTypes vs As → Fit (many is) vs
tuple_fits [] As vs m t = tt
tuple_fits (i ∷ is) (A ∷ As) (v ∷ vs) m t = ((A, m.0, t.0), tuple_fits is As vs m.1 t.1)
tuple_fits (i ∷ is) (A ∷ As) [] m t = absurd t
tuple_fits (i ∷ is) [] vs m t = absurd m

bases_along : (is : List Plain) (As : List Type') (vs : List Value) → AreIndices is As → HaveTypes vs As → along (many is) vs ≡ bases is vs
bases_along [] As vs m t = refl
bases_along (i ∷ is) (A ∷ As) (v ∷ vs) m t = ap (λ k. base i v * k) (bases_along is As vs m.1 t.1)
bases_along (i ∷ is) (A ∷ As) [] m t = absurd t
bases_along (i ∷ is) [] vs m t = absurd m

as_many : (is : List Plain) (As : List Type') (vs : List Value) → AreIndices is As → HaveTypes vs As → length is ≡ length vs
as_many [] [] [] m t = refl
as_many (i ∷ is) (A ∷ As) (v ∷ vs) m t = ap suc (as_many is As vs m.1 t.1)
as_many [] (A ∷ As) vs m t = absurd m
as_many (i ∷ is) [] vs m t = absurd m
as_many [] [] (v ∷ vs) m t = absurd t
as_many (i ∷ is) (A ∷ As) [] m t = absurd t

tuple_means : (is : List Plain) (As : List Type') (vs : List Value) → AreIndices is As → HaveTypes vs As → meaning (tuple_reading is) vs ≡ bases is vs
tuple_means is As vs m t =
    ap (λ l. meaning l vs) (sym (append-nil (tuple_reading is)))
    ∙ entries_read (many is) vs 0 vs (tuple_fits is As vs m t) (stand_behind vs [] 0 refl) (length is) [] 1 (as_many is As vs m t) (λ xs l. refl)
    ∙ ap (λ k. k * 1) (bases_along is As vs m t) ∙ grind arith

sum_means : (ts : List Term) (As : List Type') (vs : List Value) → All (λ t. AreIndices t.0 As) ts → HaveTypes vs As →
    total (λ t. t.1 * meaning (tuple_reading t.0) vs) ts ≡ worth ts vs
sum_means [] As vs m h = refl
sum_means (t ∷ ts) As vs m h =
    λ n. t.1 * tuple_means t.0 As vs (All-head (λ t. AreIndices t.0 As) t ts m) h n + sum_means ts As vs (All-tail (λ t. AreIndices t.0 As) t ts m) h n

-- How many elements are named

mutual
  pub few_named : (i : Plain) (p : Place) (n : ℕ) → names_in (reading i p n) ≤ deg i
  few_named Unit' p n = omega arith
  few_named (Pair i j) p n =
      let joined = names_joined (reading i (First p) n) (reading j (Second p) (n + names_in (reading i (First p) n))) in
      let first = few_named i (First p) n in
      let second = few_named j (Second p) (n + names_in (reading i (First p) n)) in
      omega (arith, joined, first, second)
  few_named End p n = omega arith
  few_named (Then i r) p n = by (are_zero (Then i r)) joined (few_named i (Named n) m) (few_in_entries r (suc n) (m + names_in (reading i (Named n) m)))
    where
      m : ℕ
      m = n + suc (entry_count r)

      joined : names_in (both (reading i (Named n)) (entries_reading r (suc n)) m) ≡ names_in (reading i (Named n) m) + names_in (entries_reading r (suc n) (m + names_in (reading i (Named n) m)))
      joined = names_joined (reading i (Named n) m) (entries_reading r (suc n) (m + names_in (reading i (Named n) m)))

      by : (b : Bool) → names_in (both (reading i (Named n)) (entries_reading r (suc n)) m) ≡ names_in (reading i (Named n) m) + names_in (entries_reading r (suc n) (m + names_in (reading i (Named n) m))) →
          names_in (reading i (Named n) m) ≤ deg i → names_in (entries_reading r (suc n) (m + names_in (reading i (Named n) m))) + entry_count r ≤ deg r →
          names_in (cond b (Choices p (suc (entry_count r)) ∷ []) (Elements p (suc (entry_count r)) ∷ both (reading i (Named n)) (entries_reading r (suc n)) m)) ≤ 1 + deg i + deg r
      by true j f g = omega arith
      by false j f g = omega (arith, j, f, g)
  few_named NoEntry p n = omega arith
  few_named (OneEntry i) p n = let more = few_named i (Named n) (suc n) in omega (arith, more)

  pub few_in_entries : (r : Plain) (m n : ℕ) → names_in (entries_reading r m n) + entry_count r ≤ deg r
  few_in_entries (Then i r) m n =
      let joined = names_joined (reading i (Named m) n) (entries_reading r (suc m) (n + names_in (reading i (Named m) n))) in
      let first = few_named i (Named m) n in
      let second = few_in_entries r (suc m) (n + names_in (reading i (Named m) n)) in
      omega (arith, joined, first, second)
  few_in_entries r m n = omega arith

pub many_degree : (is : List Plain) → deg (many is) ≡ degrees is + entry_count (many is)
many_degree [] = refl
many_degree (i ∷ is) = let more = many_degree is in omega (arith, more)

pub few_in_tuple : (is : List Plain) → names_in (tuple_reading is) ≤ degrees is
few_in_tuple is = let few = few_in_entries (many is) 0 (length is) in let same = many_degree is in omega (arith, few, same)

pub means_what_counts : MeansWhatCounts
means_what_counts = record { tuple = tuple_means; sum = sum_means; few = few_in_tuple }
