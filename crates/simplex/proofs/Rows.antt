-- Rows by their numbers, and lists of these.
use Rattle.std.proofs.Common.{◌≡◌, refl, sym, ap, subst, ◌∙◌, ℕ, zero, suc, ◌+◌, ◌<◌, ◌≤◌, ℤ, pos, ◌<ℤ◌, ◌≤ℤ◌, arith, List, [], ◌∷◌, ◌++◌, length, get_or, take, true, false, ◌==◌, ◌⊎◌, inl, inr}
use Rattle.std.proofs.lemmas.Int.{ints}
use Rattle.std.proofs.lemmas.Cmp.{int_ranked}
use Rattle.std.specs.Ordering.{MatchOrdering, int_cmp, ordering_index}
use Rattle.std.specs.declared.cmp.Ordering.{Ordering}
use Rattle.std.specs.declared.cmp.Ordering.TheVariants.{Less, Equal, Greater}
use Rattle.simplex_rows.specs.Entries.{Entries, at}
use Rattle.simplex.specs.Among.{Among, AllDiffer}
use Rattle.simplex.specs.Standing.{entries_at, AreTouching}
use Rattle.simplex.specs.Ties.{IsBounding, AreBounding}
use Rattle.simplex_spec.proofs.Pivoting.{same_or_not}

pub among_front : (i : ℕ) (xs ys : List ℕ) → Among i xs → Among i (xs ++ ys)
among_front i [] ys a = absurd a
among_front i (x ∷ xs) ys (inl e) = inl e
among_front i (x ∷ xs) ys (inr a) = inr (among_front i xs ys a)

pub among_last : (i : ℕ) (xs : List ℕ) → Among i (xs ++ i ∷ [])
among_last i [] = inl refl
among_last i (x ∷ xs) = inr (among_last i xs)

pub among_either : (i : ℕ) (xs : List ℕ) (y : ℕ) → Among i (xs ++ y ∷ []) → Among i xs ⊎ (i ≡ y)
among_either i [] y (inl e) = inr e
among_either i [] y (inr a) = absurd a
among_either i (x ∷ xs) y (inl e) = inl (inl e)
among_either i (x ∷ xs) y (inr a) = elim (among_either i xs y a) [ inl b ↦ inl (inr b) | inr e ↦ inr e ]

-- numbers that differ
pub differ_front : (xs : List ℕ) (y : ℕ) → AllDiffer (xs ++ y ∷ []) → AllDiffer xs
differ_front [] y d = tt
differ_front (x ∷ xs) y d = ((λ a. d.0 (among_front x xs (y ∷ []) a)), differ_front xs y d.1)

pub differ_last : (xs : List ℕ) (y : ℕ) → AllDiffer (xs ++ y ∷ []) → Among y xs → ⊥
differ_last [] y d a = a
differ_last (x ∷ xs) y d (inl e) = d.0 (subst (λ (z : ℕ). Among z (xs ++ y ∷ [])) e (among_last y xs))
differ_last (x ∷ xs) y d (inr a) = differ_last xs y d.1 a

pub differ_more : (xs : List ℕ) (y : ℕ) → AllDiffer xs → (Among y xs → ⊥) → AllDiffer (xs ++ y ∷ [])
differ_more [] y d n = ((λ a. a), tt)
differ_more (x ∷ xs) y d n = ((λ a. elim (among_either x xs y a) [ inl b ↦ d.0 b | inr e ↦ n (inl (sym e)) ]), differ_more xs y d.1 (λ a. n (inr a)))

pub value_of : (rows : List Entries) (i : ℕ) (d : Entries) → i < length rows → get_or rows i d ≡ entries_at rows i
value_of [] i d h = absurd (omega arith)
value_of (r ∷ rows) zero d h = refl
value_of (r ∷ rows) (suc i) d h = value_of rows i d (omega arith)

-- the row that was read
pub row_is : (rows : List Entries) (k : ℕ) (d : Entries) → k < length rows → d ≡ get_or rows k d → d ≡ entries_at rows k
row_is rows k d h e = e ∙ value_of rows k d h

pub among_or_not : (i : ℕ) (xs : List ℕ) → Among i xs ⊎ (Among i xs → ⊥)
among_or_not i [] = inr (λ a. a)
among_or_not i (x ∷ xs) = elim (same_or_not i x) [
  | inl e ↦ inl (inl e)
  | inr n ↦ elim (among_or_not i xs) [ inl a ↦ inl (inr a) | inr m ↦ inr (λ a. elim a [ inl e ↦ n e | inr b ↦ m b ]) ]
]

-- one row more is looked at
pub take_more : (xs : List ℕ) (k d : ℕ) → k < length xs → take (k + 1) xs ≡ take k xs ++ get_or xs k d ∷ []
take_more [] k d h = absurd (omega arith)
take_more (x ∷ xs) zero d h = refl
take_more (x ∷ xs) (suc k) d h =
    let e : suc k + 1 ≡ suc (k + 1) = omega arith in
    ap (λ (n : ℕ). take n (x ∷ xs)) e ∙ ap (λ (ys : List ℕ). x ∷ ys) (take_more xs k d (omega arith))

pub none_among : (i : ℕ) (xs : List ℕ) → length xs ≡ 0 → Among i xs → ⊥
none_among i [] e a = a
none_among i (x ∷ xs) e a = absurd (omega arith)

pub among_at : (xs : List ℕ) (k d : ℕ) → k < length xs → Among (get_or xs k d) xs
among_at [] k d h = absurd (omega arith)
among_at (x ∷ xs) zero d h = inl refl
among_at (x ∷ xs) (suc k) d h = inr (among_at xs k d (omega arith))

pub take_whole : (k : ℕ) (xs : List ℕ) → length xs ≤ k → take k xs ≡ xs
take_whole zero [] h = refl
take_whole zero (x ∷ xs) h = absurd (omega arith)
take_whole (suc k) [] h = refl
take_whole (suc k) (x ∷ xs) h = ap (λ (ys : List ℕ). x ∷ ys) (take_whole k xs (omega arith))

pub among_take_more : (k : ℕ) (xs : List ℕ) (i : ℕ) → k < length xs → Among i (take (k + 1) xs) → Among i (take k xs) ⊎ (i ≡ get_or xs k 0)
among_take_more k xs i h a = among_either i (take k xs) (get_or xs k 0) (subst (Among i) (take_more xs k 0 h) a)

pub not_yet : (k : ℕ) (xs : List ℕ) → k < length xs → AllDiffer xs → Among (get_or xs k 0) (take k xs) → ⊥
not_yet k [] h d a = absurd (omega arith)
not_yet zero (x ∷ xs) h d a = absurd a
not_yet (suc k) (x ∷ xs) h d (inl e) = d.0 (subst (λ (z : ℕ). Among z xs) e (among_at xs k 0 (omega arith)))
not_yet (suc k) (x ∷ xs) h d (inr a) = not_yet k xs (omega arith) d.1 a

pub among_take : (k : ℕ) (xs : List ℕ) (i : ℕ) → k < length xs → Among i (take k xs) → Among i (take (k + 1) xs)
among_take k xs i h a = subst (Among i) (sym (take_more xs k 0 h)) (among_front i (take k xs) (get_or xs k 0 ∷ []) a)

pub among_taken : (k : ℕ) (xs : List ℕ) → k < length xs → Among (get_or xs k 0) (take (k + 1) xs)
among_taken k xs h = subst (Among (get_or xs k 0)) (sym (take_more xs k 0 h)) (among_last (get_or xs k 0) (take k xs))

pub earlier_or_here : (j i : ℕ) → j < i + 1 → (j < i) ⊎ (j ≡ i)
earlier_or_here j i h = grind arith

-- of the numbers in Q, these have P
pub record Picked (Q P : ℕ → Type 0) (is : List ℕ) : Type 0 where
  pub of : (i : ℕ) → Among i is → Q i
  pub only : (i : ℕ) → Among i is → P i
  pub all : (i : ℕ) → Q i → P i → Among i is
  pub differ : AllDiffer is

-- one number more, which has P or not
module _ (Q R P : ℕ → Type 0) (is : List ℕ) (x : ℕ) (picked : Picked Q P is) (more : (i : ℕ) → R i → Q i ⊎ (i ≡ x)) (still : (i : ℕ) → Q i → R i) where
  pub picked_more : (new : List ℕ) → R x → (Q x → ⊥) → P x → new ≡ is ++ x ∷ [] → Picked R P new
  picked_more new r n p e = record {
    of = λ i a. elim (among_either i is x (subst (Among i) e a)) [ inl b ↦ still i (picked.of i b) | inr q ↦ subst R (sym q) r ];
    only = λ i a. elim (among_either i is x (subst (Among i) e a)) [ inl b ↦ picked.only i b | inr q ↦ subst P (sym q) p ];
    all = λ i q h. subst (Among i) (sym e) (elim (more i q) [ inl b ↦ among_front i is (x ∷ []) (picked.all i b h) | inr g ↦ subst (λ (z : ℕ). Among z (is ++ x ∷ [])) (sym g) (among_last x is) ]);
    differ = subst AllDiffer (sym e) (differ_more is x picked.differ (λ a. n (picked.of x a)));
  }

  pub picked_same : (P x → ⊥) → Picked R P is
  picked_same n = record {
    of = λ i a. still i (picked.of i a);
    only = picked.only;
    all = λ i q h. elim (more i q) [ inl b ↦ picked.all i b h | inr g ↦ absurd (n (subst P g h)) ];
    differ = picked.differ;
  }

pub is_bounding : (s : ℕ) (rows : List Entries) (k : ℕ) (n : ℤ) → k < length rows → n ≡ (at s (entries_at rows k)).num → pos 0 <ℤ n → IsBounding s rows k
is_bounding s rows k n h e p = record { inside = h; positive = subst (λ (z : ℤ). pos 0 <ℤ z) e p }

pub not_bounding : (s : ℕ) (rows : List Entries) (k : ℕ) (n : ℤ) → n ≡ (at s (entries_at rows k)).num → n ≤ℤ pos 0 → IsBounding s rows k → ⊥
not_bounding s rows k n e h b = let p : (at s (entries_at rows k)).num ≤ℤ pos 0 = subst (λ (z : ℤ). z ≤ℤ pos 0) e h in let q = b.positive in omega (arith, ints)

pub bounding_all : (k s : ℕ) (rows : List Entries) (touching is : List ℕ) → length touching ≤ k → AreTouching s rows touching → Picked (λ i. Among i (take k touching)) (IsBounding s rows) is → AreBounding s rows is
bounding_all k s rows touching is h t p = record {
  only = p.only;
  all = λ i b. p.all i (subst (Among i) (sym (take_whole k touching h)) (t.all i b.inside (λ e. let q = b.positive in omega (arith, ints)))) b;
  differ = p.differ;
}

-- what the sign of a number tells
pub greater : (n : ℤ) (r : Ordering) → r ≡ int_cmp n (pos 0) → true ≡ (ordering_index r == 2) → pos 0 <ℤ n
greater n r e t = by_rank n r (int_ranked n (pos 0) r e) t
  where
    by_rank : (n : ℤ) (r : Ordering) → MatchOrdering r (n <ℤ pos 0) (n ≡ pos 0) (pos 0 <ℤ n) → true ≡ (ordering_index r == 2) → pos 0 <ℤ n
    by_rank n Less h t = absurd (cc)
    by_rank n Equal h t = absurd (cc)
    by_rank n Greater h t = h

pub not_greater : (n : ℤ) (r : Ordering) → r ≡ int_cmp n (pos 0) → false ≡ (ordering_index r == 2) → n ≤ℤ pos 0
not_greater n r e t = by_rank n r (int_ranked n (pos 0) r e) t
  where
    by_rank : (n : ℤ) (r : Ordering) → MatchOrdering r (n <ℤ pos 0) (n ≡ pos 0) (pos 0 <ℤ n) → false ≡ (ordering_index r == 2) → n ≤ℤ pos 0
    by_rank n Less h t = omega (arith, ints)
    by_rank n Equal h t = omega (arith, ints)
    by_rank n Greater h t = absurd (cc)

-- the number that was read at a place
pub number_read : (s : ℕ) (rows : List Entries) (k : ℕ) (d : Entries) (n : ℤ) → k < length rows → d ≡ get_or rows k d → n ≡ (at s d).num → n ≡ (at s (entries_at rows k)).num
number_read s rows k d n h e f = f ∙ ap (λ (es : Entries). (at s es).num) (row_is rows k d h e)
