-- The numbers of all tuples of a context, in order.
use Rattle.std.proofs.Common.{◌≡◌, ℕ, zero, suc, ◌+◌, ◌-◌, ◌≤◌, inl, inr, Bool, true, false, not, cond, nat_lt, List, [], ◌∷◌, ◌++◌, map, flat_map, take, drop, length, slice_get, None, Some, refl, sym, ap, ◌∙◌, subst, arith}
use Rattle.std.proofs.Math.Seq.{take-append_seam, drop-append_seam}
use Rattle.std.proofs.lemmas.List.{length-map, map-append}
use Rattle.std.specs.List.{position_or_len}
use Rattle.std.specs.declared.cmp.Ordering.TheVariants.{Less}
use Rattle.raml_syntax.specs.Tree.{Type'}
use Rattle.base_poly.specs.Plain.{Plain, degrees, alike}
use Rattle.base_poly.specs.Indices.{AreIndices, Ascends, each_in_turn, tuples_led, indices_up_to, tuples_up_to, index_list}
use Rattle.base_poly.specs.Total.{alike_is, alike_self}
use Rattle.base_poly.proofs.Among.{Among, among_contains, before_one}
use Rattle.base_poly.proofs.Exact.{exact, tuples_ascend}
use Rattle.base_poly.proofs.Low.{never_turn}
use Rattle.index_shift.proofs.Exactly.{exactly, each_degree, behind_one, by_degrees, in_two}
use Rattle.index_shift.proofs.Spots.{got_among}
use Rattle.tuple_ranks.specs.Columns.{sizes, lower_count}
use Rattle.tuple_ranks.specs.Numbers.{number, numbers, led, numbered, all_numbered, flat, cut}
use Rattle.tuple_ranks.proofs.Ranked.{size_is}

-- In order no two are the same

other : (t u : List Plain) → each_in_turn t u ≡ Less → alike u t ≡ false
other t u h = by (alike u t) refl
  where
    by : (b : Bool) → alike u t ≡ b → alike u t ≡ false
    by true e = let again = ap (each_in_turn t) (sym (alike_is u t e)) ∙ h in absurd (never_turn t t again again)
    by false e = e

pub stands_at : (us : List (List Plain)) (k : ℕ) (t : List Plain) → Ascends each_in_turn us → slice_get us k ≡ Some t → position_or_len (alike t) us ≡ k
stands_at [] k t up h = absurd (none h)
  where
    none : None ≡ Some t → ⊥
    none e = cc
stands_at (u ∷ us) zero t up h = ap (λ b. cond (not b) (1 + position_or_len (alike t) us) 0) (ap (alike t) (same h) ∙ alike_self t)
  where
    same : Some u ≡ Some t → u ≡ t
    same e = cc
stands_at (u ∷ us) (suc k) t up h =
    ap (λ b. cond (not b) (1 + position_or_len (alike t) us) 0) (other u t (before_one each_in_turn u t us up.0 (got_among us k t h)))
    ∙ one_more (position_or_len (alike t) us) ∙ ap suc (stands_at us k t up.1 h)
  where
    one_more : (n : ℕ) → 1 + n ≡ suc n
    one_more n = omega arith

-- Tuples of one index

abbrev single : Plain → List Plain
single i = i ∷ []

singles : (d : ℕ) (is : List Plain) → tuples_led (tuples_up_to []) d is ≡ map single is
singles d [] = refl
singles d (i ∷ is) = ap (λ l. (i ∷ []) ∷ l) (singles d is)

one_single : (is : List Plain) (k : ℕ) (i : Plain) → slice_get is k ≡ Some i → slice_get (map single is) k ≡ Some (i ∷ [])
one_single [] k i h = absurd (none h)
  where
    none : None ≡ Some i → ⊥
    none e = cc
one_single (j ∷ is) zero i h = ap (λ j. Some (j ∷ [])) (same h)
  where
    same : Some j ≡ Some i → j ≡ i
    same e = cc
one_single (j ∷ is) (suc k) i h = one_single is k i h

number_at : (A : Type') (d k : ℕ) (i : Plain) → slice_get (indices_up_to A d) k ≡ Some i → number A d i ≡ k
number_at A d k i h = stands_at (tuples_up_to (A ∷ []) d) k (i ∷ []) (tuples_ascend (A ∷ []) d) (ap (λ l. slice_get l k) (singles d (indices_up_to A d)) ∙ one_single (indices_up_to A d) k i h)

-- Of exactly a degree

module _ (A : Type') (As : List Type') (d g : ℕ) (rests : (h : ℕ) → h ≤ d → numbered (sizes As d) h ≡ map (numbers As d) (exactly As h)) (low : g ≤ d) where
  one_led : (i : Plain) (k : ℕ) → number A d i ≡ k → (us : List (List Plain)) (rows : List (List ℕ)) → rows ≡ map (numbers As d) us →
      map (λ ns. k ∷ ns) rows ≡ map (numbers (A ∷ As) d) (map (λ u. (i ∷ []) ++ u) us)
  one_led i k e us rows h = ap (map (λ ns. k ∷ ns)) h ∙ all us
    where
      all : (us : List (List Plain)) → map (λ ns. k ∷ ns) (map (numbers As d) us) ≡ map (numbers (A ∷ As) d) (map (λ u. (i ∷ []) ++ u) us)
      all [] = refl
      all (u ∷ us) = λ j. (sym e j ∷ numbers As d u) ∷ all us j

  all_led : (k : ℕ) (is : List Plain) → ((m : ℕ) (i : Plain) → slice_get is m ≡ Some i → number A d i ≡ k + m) →
      led (numbered (sizes As d)) g k (map degrees (map single is)) ≡ map (numbers (A ∷ As) d) (flat_map (behind_one As g) (map single is))
  all_led k [] at = refl
  all_led k (i ∷ is) at =
      (λ j. first (nat_lt g (degrees (i ∷ []))) j ++ all_led (suc k) is (λ m x h. at (suc m) x h ∙ next m) j)
      ∙ sym (map-append (numbers (A ∷ As) d) (behind_one As g (i ∷ [])) (flat_map (behind_one As g) (map single is)))
    where
      next : (m : ℕ) → k + suc m ≡ suc k + m
      next m = omega arith

      none : k + 0 ≡ k
      none = omega arith

      first : (b : Bool) → cond b [] (map (λ ns. k ∷ ns) (numbered (sizes As d) (g - degrees (i ∷ []))))
          ≡ map (numbers (A ∷ As) d) (cond b [] (map (λ u. (i ∷ []) ++ u) (exactly As (g - degrees (i ∷ [])))))
      first true = refl
      first false = one_led i k (at 0 i refl ∙ none) (exactly As (g - degrees (i ∷ []))) _ (rests (g - degrees (i ∷ [])) (omega (arith, low)))

numbered_is : (As : List Type') (d g : ℕ) → g ≤ d → numbered (sizes As d) g ≡ map (numbers As d) (exactly As g)
numbered_is [] d zero low = refl
numbered_is [] d (suc g) low = refl
numbered_is (A ∷ As) d g low =
    ap (λ l. led (numbered (sizes As d)) g 0 (map degrees l)) (singles d (indices_up_to A d))
    ∙ all_led A As d g (λ h l. numbered_is As d h l) low 0 (indices_up_to A d) (λ m i h. number_at A d m i h ∙ none m)
    ∙ ap (λ l. map (numbers (A ∷ As) d) (flat_map (behind_one As g) l)) (sym (singles d (indices_up_to A d)))
    ∙ ap (map (numbers (A ∷ As) d)) (sym (in_two (A ∷ []) As g d low))
  where
    none : (m : ℕ) → m ≡ 0 + m
    none m = omega arith

all_is : (As : List Type') (d n from : ℕ) → from + n ≤ 1 + d → all_numbered (sizes As d) n from ≡ map (numbers As d) (each_degree As n from)
all_is As d zero from low = refl
all_is As d (suc n) from low =
    (λ i. numbered_is As d from (omega (arith, low)) i ++ all_is As d n (1 + from) (omega (arith, low)) i)
    ∙ sym (map-append (numbers As d) (exactly As from) (each_degree As n (1 + from)))

pub all_numbers : (As : List Type') (d : ℕ) → all_numbered (sizes As d) (1 + d) 0 ≡ map (numbers As d) (index_list As d)
all_numbers As d = all_is As d (1 + d) 0 (omega arith) ∙ ap (map (numbers As d)) (sym (by_degrees As d))

-- Cut into rows

as_many : (As : List Type') (d : ℕ) (t : List Plain) → AreIndices t As → length (numbers As d t) ≡ length As
as_many [] d [] h = refl
as_many [] d (i ∷ t) h = absurd h
as_many (A ∷ As) d [] h = absurd h
as_many (A ∷ As) d (i ∷ t) h = ap suc (as_many As d t h.1)

cut_flat : (rows : List (List ℕ)) (width : ℕ) → ((ns : List ℕ) → Among ns rows → length ns ≡ width) → cut (length rows) width (flat rows) ≡ rows
cut_flat [] width long = refl
cut_flat (ns ∷ rows) width long =
    let same = long ns (inl refl) in
    (λ i. take (sym same i) (ns ++ flat rows) ∷ cut (length rows) width (drop (sym same i) (ns ++ flat rows)))
    ∙ (λ i. take-append_seam ns (flat rows) i ∷ cut (length rows) width (drop-append_seam ns (flat rows) i))
    ∙ ap (λ l. ns ∷ l) (cut_flat rows width (λ ms m. long ms (inr m)))

mapped : {X Y : Type 0} (f : X → Y) (P : Y → Type 0) (xs : List X) → ((x : X) → Among x xs → P (f x)) → (y : Y) → Among y (map f xs) → P y
mapped f P [] h y m = absurd m
mapped f P (x ∷ xs) h y (inl e) = subst P e (h x (inl refl))
mapped f P (x ∷ xs) h y (inr m) = mapped f P xs (λ z n. h z (inr n)) y m

-- what is appended row by row is cut into the numbers of the tuples
pub rows_are : (As : List Type') (d : ℕ) → cut (lower_count (sizes As d) (1 + d)) (length As) (flat (all_numbered (sizes As d) (1 + d) 0)) ≡ map (numbers As d) (index_list As d)
rows_are As d =
    (λ i. cut (number_is i) (length As) (flat (all_numbers As d i)))
    ∙ cut_flat (map (numbers As d) (index_list As d)) (length As)
    (mapped (numbers As d) (λ ns. length ns ≡ length As) (index_list As d) (λ t m. as_many As d t (((exact As d).exactly t).0 (among_contains t (index_list As d) m)).0))
  where
    number_is : lower_count (sizes As d) (1 + d) ≡ length (map (numbers As d) (index_list As d))
    number_is = size_is As d ∙ sym (length-map (index_list As d) (numbers As d))
