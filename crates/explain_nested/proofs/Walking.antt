-- Readings as they are appended.
use Rattle.std.proofs.Common.{◌≡◌, ◌≤◌, ◌<◌, ◌^◌, ◌≢◌, ℕ, suc, ◌+◌, true, false, cond, List, [], ◌∷◌, ◌++◌, Box, Global, length, drop, get_or, refl, sym, ap, ◌∙◌, arith, append_assoc}
use Rattle.std.proofs.lemmas.List.{drop_more}
use Rattle.base_poly.specs.Plain.{Plain, Pair, OneEntry, many, deg, degrees, entry_count}
use Rattle.base_poly.specs.Read.{index_of, plains_of}
use Rattle.base_poly.specs.declared.index.Index.{Index}
use Rattle.base_poly.specs.declared.index.Index.TheVariants as v
use Rattle.base_poly.proofs.Many.{as_pair}
use Rattle.explain_nested.specs.Reading.{Place, Named, First, Second, Piece, Choices, Elements, Held, names_in, both, are_zero, reading, entries_reading}
use Rattle.explain_nested.proofs.Meaning.{names_joined, few_named, many_degree}

-- two readings, one after the other, where n is the next number

module _ (r s : ℕ → List Piece) (n after : ℕ) (hn : after ≡ n + names_in (r n)) where
  pub both_next : (last : ℕ) → last ≡ after + names_in (s after) → last ≡ n + names_in (both r s n)
  both_next last h =
      let joined = names_joined (r n) (s (n + names_in (r n))) in
      let same = ap (λ k. k + names_in (s k)) hn in
      omega (arith, h, same, joined)

  pub both_pieces : (old mid new : List Piece) → mid ≡ old ++ r n → new ≡ mid ++ s after → new ≡ old ++ both r s n
  both_pieces old mid new hm h =
      h ∙ (λ k. hm k ++ s (hn k)) ∙ append_assoc old (r n) (s (n + names_in (r n)))

-- a list index with entries

pub counted : (is : List Plain) → entry_count (many is) ≡ length is
counted [] = refl
counted (i ∷ is) = ap suc (counted is)

pub entries_few : (is : List Plain) (n c : ℕ) → length is ≡ c → deg (many is) ≤ 4 → n + deg (many is) < 2 ^ 64 → (degrees is ≤ 4) × (n + c + degrees is < 2 ^ 64)
entries_few is n c h low few =
    let degree = many_degree is in let count = counted is in (omega (arith, degree, count, low), omega (arith, degree, count, few, h))

pub list_low : (is : List Plain) (n c last : ℕ) → length is ≡ c → last ≤ n + c + degrees is → last ≤ n + deg (many is)
list_low is n c last h low = let degree = many_degree is in let count = counted is in omega (arith, degree, count, low, h)

pub list_choices : (is : List Plain) (p : Place) (n c : ℕ) → length is ≡ c → c ≢ 0 → are_zero (many is) ≡ true → reading (many is) p n ≡ Choices p c ∷ []
list_choices [] p n c h some zero = absurd (some (sym h))
list_choices (i ∷ is) p n c h some zero =
    ap (λ b. cond b (Choices p (suc (entry_count (many is))) ∷ []) (Elements p (suc (entry_count (many is))) ∷ both (reading i (Named n)) (entries_reading (many is) (suc n)) (n + suc (entry_count (many is))))) zero
    ∙ ap (λ k. Choices p k ∷ []) (counted (i ∷ is) ∙ h)

pub list_elements : (is : List Plain) (p : Place) (n c : ℕ) → length is ≡ c → c ≢ 0 → are_zero (many is) ≡ false → reading (many is) p n ≡ Elements p c ∷ entries_reading (many is) n (n + c)
list_elements [] p n c h some zero = absurd (some (sym h))
list_elements (i ∷ is) p n c h some zero =
    ap (λ b. cond b (Choices p (suc (entry_count (many is))) ∷ []) (Elements p (suc (entry_count (many is))) ∷ both (reading i (Named n)) (entries_reading (many is) (suc n)) (n + suc (entry_count (many is))))) zero
    ∙ ap (λ k. Elements p k ∷ entries_reading (many (i ∷ is)) n (n + k)) (counted (i ∷ is) ∙ h)

-- one entry more

module _ (es : List Index) (k : ℕ) (x : Index) (below : k < length es) (is : x ≡ get_or es k x) (number after last : ℕ) (hn : last ≡ after + names_in (reading (index_of x) (Named number) after)) where
  left : drop k es ≡ x ∷ drop (k + 1) es
  left = drop_more es k x below ∙ ap (λ y. y ∷ drop (k + 1) es) (sym is)

  one : number + 1 ≡ suc number
  one = omega arith

  pub entry_few : (most : ℕ) → degrees (plains_of (drop k es)) ≤ 4 → after + degrees (plains_of (drop k es)) < 2 ^ 64 → after + degrees (plains_of (drop k es)) ≤ most →
      (degrees (plains_of (drop (k + 1) es)) ≤ 4) × (last + degrees (plains_of (drop (k + 1) es)) < 2 ^ 64) × (last + degrees (plains_of (drop (k + 1) es)) ≤ most)
  entry_few most low few within =
      let same = ap (λ l. degrees (plains_of l)) left in
      second_degrees (degrees (plains_of (drop (k + 1) es))) same
    where
      second_degrees : (d : ℕ) → degrees (plains_of (drop k es)) ≡ deg (index_of x) + d → (d ≤ 4) × (last + d < 2 ^ 64) × (last + d ≤ most)
      second_degrees d same =
          let named = few_named (index_of x) (Named number) after in
          (omega (arith, same, low), omega (arith, same, few, named, hn), omega (arith, same, within, named, hn))

  pub entry_pieces : (old mid whole : List Piece) → mid ≡ old ++ reading (index_of x) (Named number) after →
      old ++ entries_reading (many (plains_of (drop k es))) number after ≡ whole → mid ++ entries_reading (many (plains_of (drop (k + 1) es))) (number + 1) last ≡ whole
  entry_pieces old mid whole hm h =
      both_pieces (reading (index_of x) (Named number)) (entries_reading (many (plains_of (drop (k + 1) es))) (number + 1)) after last hn old mid _ hm refl
      ∙ ap (λ m. old ++ both (reading (index_of x) (Named number)) (entries_reading (many (plains_of (drop (k + 1) es))) m) after) one
      ∙ ap (λ l. old ++ entries_reading (many (plains_of l)) number after) (sym left) ∙ h

  pub entry_next : (whole : ℕ) → after + names_in (entries_reading (many (plains_of (drop k es))) number after) ≡ whole →
      last + names_in (entries_reading (many (plains_of (drop (k + 1) es))) (number + 1) last) ≡ whole
  entry_next whole h =
      both_next (reading (index_of x) (Named number)) (entries_reading (many (plains_of (drop (k + 1) es))) (number + 1)) after last hn _ refl
      ∙ ap (λ m. after + names_in (both (reading (index_of x) (Named number)) (entries_reading (many (plains_of (drop (k + 1) es))) m) after)) one
      ∙ ap (λ l. after + names_in (entries_reading (many (plains_of l)) number after)) (sym left) ∙ h

-- one piece, and a reading behind it

pub piece_before : (old mid new rest whole : List Piece) (p : Piece) → mid ≡ old ++ p ∷ [] → new ≡ mid ++ rest → whole ≡ p ∷ rest → new ≡ old ++ whole
piece_before old mid new rest whole p hm h hw =
    h ∙ ap (λ l. l ++ rest) hm ∙ append_assoc old (p ∷ []) rest ∙ ap (λ l. old ++ l) (sym hw)

pub held_is : (i : Plain) (p q : Place) (n : ℕ) → q ≡ Named n → reading (OneEntry i) p n ≡ Held p ∷ reading i q (n + 1)
held_is i p q n h = let one : suc n ≡ n + 1 = omega arith in λ k. Held p ∷ reading i (sym h k) (one k)

-- a name at its place
pub at_named : (i : Plain) (p : Place) (k n : ℕ) (old mid : List Piece) → p ≡ Named k → mid ≡ old ++ reading i p n → mid ≡ old ++ reading i (Named k) n
at_named i p k n old mid h e = e ∙ ap (λ q. old ++ reading i q n) h

pub next_named : (i : Plain) (p : Place) (k n last : ℕ) → p ≡ Named k → last ≡ n + names_in (reading i p n) → last ≡ n + names_in (reading i (Named k) n)
next_named i p k n last h e = e ∙ ap (λ q. n + names_in (reading i q n)) h

-- the parts of a pair, one after the other

module _ (x i j : Index) (a b : Box Index Global) (place left right : Place) (n after : ℕ) (hx : x ≡ v.Pair a b) (hi : i ≡ a.value) (hj : j ≡ b.value) (hl : left ≡ First place) (hr : right ≡ Second place)
    (hn : after ≡ n + names_in (reading (index_of i) left n)) where
  whole : index_of x ≡ Pair (index_of i) (index_of j)
  whole = as_pair x a b hx ∙ (λ k. Pair (index_of (sym hi k)) (index_of (sym hj k)))

  behind_first : after ≡ n + names_in (reading (index_of i) (First place) n)
  behind_first = hn ∙ ap (λ p. n + names_in (reading (index_of i) p n)) hl

  pub pair_pieces : (old mid new : List Piece) → mid ≡ old ++ reading (index_of i) left n → new ≡ mid ++ reading (index_of j) right after → new ≡ old ++ reading (index_of x) place n
  pair_pieces old mid new hm h =
      both_pieces (reading (index_of i) (First place)) (reading (index_of j) (Second place)) n after behind_first old mid new
      (hm ∙ ap (λ p. old ++ reading (index_of i) p n) hl) (h ∙ ap (λ p. mid ++ reading (index_of j) p after) hr)
      ∙ ap (λ i. old ++ reading i place n) (sym whole)

  pub pair_next : (last : ℕ) → last ≡ after + names_in (reading (index_of j) right after) → last ≡ n + names_in (reading (index_of x) place n)
  pair_next last h =
      both_next (reading (index_of i) (First place)) (reading (index_of j) (Second place)) n after behind_first last
      (h ∙ ap (λ p. after + names_in (reading (index_of j) p after)) hr)
      ∙ ap (λ i. n + names_in (reading i place n)) (sym whole)
