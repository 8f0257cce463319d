-- The sum is the same where only the names of the legend are told.
use Rattle.std.proofs.Common.{◌≡◌, ◌+◌, ◌==◌, ◌++◌, ℕ, zero, suc, Bool, true, false, cond, not, Option, Some, None, List, [], ◌∷◌, reverse, refl, ap, ◌∙◌, All, arith}
use Rattle.std.specs.Prelude.{ℤ, unsigned_abs, encode_utf8, slice_index_or}
use Rattle.std.proofs.lemmas.List.Elements.{All-head, All-tail}
use Rattle.std.proofs.lemmas.List.Folds.{list_any_at}
use Rattle.std.proofs.lemmas.List.Sorted.{All-permutation, IsPermutation-reverse}
use Rattle.poly_text.specs.Text.{coefficient_text}
use Rattle.bound_compare.specs.Powers.{Powers}
use Rattle.bound_compare.specs.Text.{sign_text, joint_text}
use Rattle.explain_algebra.specs.Algebra.{joined, times, with_coefficient, exponent_text, name_at, factor, factors, term_text, more_terms, sum_text}
use Rattle.explain_reading.specs.Reading.{occurs, used_from, used_names}
use Rattle.explain_reading.specs.Laws.{LegendSuffices}

-- the name of a size that occurs is kept, and others are none
none_at : (j : ℕ) → name_at [] j ≡ None
none_at zero = refl
none_at (suc j) = refl

kept_or_none : (b : Bool) (j : ℕ) → name_at [] j ≡ cond b (name_at [] j) None
kept_or_none true j = refl
kept_or_none false j = none_at j

kept_at : (ps : Powers) (names : List (Option ℕ)) (i j k : ℕ) → i + j ≡ k → name_at (used_from i ps names) j ≡ cond (occurs k ps) (name_at names j) None
kept_at ps [] i j k e = kept_or_none (occurs k ps) j
kept_at ps (name ∷ names) i zero k e = let same : i ≡ k = omega (arith, e) in ap (λ k. cond (occurs k ps) name None) same
kept_at ps (name ∷ names) i (suc j) k e = kept_at ps names (suc i) j k (omega (arith, e))

-- so a factor is the same where its size occurs or its exponent is 0
same_factor : (b : Bool) (name : Option ℕ) (e : ℕ) → ((e == 0) ≡ false → b ≡ true) → factor (cond b name None) e ≡ factor name e
same_factor true name e h = refl
same_factor false None e h = refl
same_factor false (Some c) e h = by (e == 0) h
  where
    by : (t : Bool) → (t ≡ false → false ≡ true) → [] ≡ cond t [] ((encode_utf8 c ++ exponent_text e) ∷ [])
    by true h = refl
    by false h = let f : false ≡ true = h refl in absurd (cc)

-- each power with an exponent that is not 0 occurs
abbrev Shown : Powers → List ℕ × ℤ → Type 0
Shown ps q = (k : ℕ) → (slice_index_or q.0 k 0 == 0) ≡ false → occurs k ps ≡ true

all_shown : (ps : Powers) → All (Shown ps) ps
all_shown ps i d l k e = list_any_at (λ p. not (slice_index_or p.0 k 0 == 0)) ps i d l (ap not e)

same_factors : (ps : Powers) (names : List (Option ℕ)) (j : ℕ) (es : List ℕ) → ((k : ℕ) → (slice_index_or es k 0 == 0) ≡ false → occurs (j + k) ps ≡ true) →
    factors (used_names ps names) j es ≡ factors names j es
same_factors ps names j [] h = refl
same_factors ps names j (e ∷ es) h =
    let one : factor (name_at (used_names ps names) j) e ≡ factor (name_at names j) e =
    ap (λ n. factor n e) (kept_at ps names 0 j j (omega arith)) ∙ same_factor (occurs j ps) (name_at names j) e (λ f. ap (λ k. occurs k ps) (omega arith) ∙ h 0 f) in
    let more = same_factors ps names (suc j) es (λ k f. ap (λ k. occurs k ps) (omega arith) ∙ h (suc k) f) in
    λ i. one i ++ more i

same_term : (den : ℕ) (ps : Powers) (names : List (Option ℕ)) (q : List ℕ × ℤ) → Shown ps q → term_text den (used_names ps names) q ≡ term_text den names q
same_term den ps names q h =
    ap (λ fs. joined times (with_coefficient (unsigned_abs q.1 == den) (coefficient_text (unsigned_abs q.1) den) fs)) (same_factors ps names 0 q.0 (λ k f. ap (λ k. occurs k ps) (omega arith) ∙ h k f))

same_more : (den : ℕ) (ps : Powers) (names : List (Option ℕ)) (qs : Powers) → All (Shown ps) qs → more_terms den (used_names ps names) qs ≡ more_terms den names qs
same_more den ps names [] h = refl
same_more den ps names (q ∷ qs) h =
    let one = same_term den ps names q (All-head (Shown ps) q qs h) in
    let more = same_more den ps names qs (All-tail (Shown ps) q qs h) in
    λ i. joint_text q.1 ++ (one i ++ more i)

same_sum : (den : ℕ) (ps : Powers) (names : List (Option ℕ)) (qs : Powers) → All (Shown ps) qs → sum_text den (used_names ps names) qs ≡ sum_text den names qs
same_sum den ps names [] h = refl
same_sum den ps names (q ∷ qs) h =
    let one = same_term den ps names q (All-head (Shown ps) q qs h) in
    let more = same_more den ps names qs (All-tail (Shown ps) q qs h) in
    λ i. sign_text q.1 ++ (one i ++ more i)

pub legend_suffices : LegendSuffices
legend_suffices den names ps = same_sum den ps names (reverse ps) (All-permutation (Shown ps) ps (reverse ps) (IsPermutation-reverse ps) (all_shown ps))
