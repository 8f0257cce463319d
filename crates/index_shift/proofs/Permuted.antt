-- The order of the variables of a context does not matter.
use Rattle.std.proofs.Common.{◌≡◌, ℕ, zero, suc, ◌+◌, ◌*◌, List, [], ◌∷◌, length, refl, sym, ap, ◌∙◌, arith}
use Rattle.raml_syntax.specs.Tree.{Type'}
use Rattle.raml_syntax.specs.Value.{Value}
use Rattle.base_poly.specs.Plain.{Plain, deg, degrees}
use Rattle.base_poly.specs.Indices.{IsIndex, AreIndices}
use Rattle.base_poly.specs.Base.{base, bases}
use Rattle.index_shift.proofs.Carried.{as_long}
use Rattle.index_shift.proofs.Kept.{map_keeps}
use Rattle.index_shift.specs.Contexts.{insertion, permutation, permutes, PermutingKeeps}

long_inserted : {X : Type 0} (k : ℕ) (x : X) (xs : List X) → length (insertion k x xs) ≡ suc (length xs)
long_inserted zero x xs = refl
long_inserted (suc k) x [] = refl
long_inserted (suc k) x (y ∷ ys) = ap suc (long_inserted k x ys)

long_permutation : {X : Type 0} (ks : List ℕ) (xs : List X) → length ks ≡ length xs → length (permutation ks xs) ≡ length xs
long_permutation [] [] h = refl
long_permutation [] (x ∷ xs) h = absurd (omega (arith, h))
long_permutation (k ∷ ks) [] h = absurd (omega (arith, h))
long_permutation (k ∷ ks) (x ∷ xs) h = long_inserted k x (permutation ks xs) ∙ ap suc (long_permutation ks xs (omega (arith, h)))

inserted_bases : (k : ℕ) (i : Plain) (v : Value) (t : List Plain) (vs : List Value) → length t ≡ length vs → bases (insertion k i t) (insertion k v vs) ≡ base i v * bases t vs
inserted_bases zero i v t vs h = refl
inserted_bases (suc k) i v [] [] h = refl
inserted_bases (suc k) i v [] (w ∷ vs) h = absurd (omega (arith, h))
inserted_bases (suc k) i v (j ∷ t) [] h = absurd (omega (arith, h))
inserted_bases (suc k) i v (j ∷ t) (w ∷ vs) h = let more = inserted_bases k i v t vs (omega (arith, h)) in grind (arith, more)

inserted_degrees : (k : ℕ) (i : Plain) (t : List Plain) → degrees (insertion k i t) ≡ deg i + degrees t
inserted_degrees zero i t = refl
inserted_degrees (suc k) i [] = refl
inserted_degrees (suc k) i (j ∷ t) = let more = inserted_degrees k i t in omega (arith, more)

are_inserted : (k : ℕ) (i : Plain) (A : Type') (t : List Plain) (As : List Type') → IsIndex i A → AreIndices t As → AreIndices (insertion k i t) (insertion k A As)
are_inserted zero i A t As h g = (h, g)
are_inserted (suc k) i A [] [] h g = (h, tt)
are_inserted (suc k) i A [] (B ∷ As) h g = absurd g
are_inserted (suc k) i A (j ∷ t) [] h g = absurd g
are_inserted (suc k) i A (j ∷ t) (B ∷ As) h g = (g.0, are_inserted k i A t As h g.1)

pub permutation_bases : (ks : List ℕ) (t : List Plain) (vs : List Value) → length ks ≡ length t → length vs ≡ length t → bases (permutation ks t) (permutation ks vs) ≡ bases t vs
permutation_bases [] [] [] h g = refl
permutation_bases [] [] (v ∷ vs) h g = absurd (omega (arith, g))
permutation_bases [] (i ∷ t) vs h g = absurd (omega (arith, h))
permutation_bases (k ∷ ks) [] vs h g = absurd (omega (arith, h))
permutation_bases (k ∷ ks) (i ∷ t) [] h g = absurd (omega (arith, g))
permutation_bases (k ∷ ks) (i ∷ t) (v ∷ vs) h g =
    let some : length ks ≡ length t = omega (arith, h) in
    let more : length vs ≡ length t = omega (arith, g) in
    inserted_bases k i v (permutation ks t) (permutation ks vs) (long_permutation ks t some ∙ sym more ∙ sym (long_permutation ks vs (some ∙ sym more)))
    ∙ ap (λ n. base i v * n) (permutation_bases ks t vs some more)

pub permutation_degrees : (ks : List ℕ) (t : List Plain) → length ks ≡ length t → degrees (permutation ks t) ≡ degrees t
permutation_degrees [] [] h = refl
permutation_degrees [] (i ∷ t) h = absurd (omega (arith, h))
permutation_degrees (k ∷ ks) [] h = absurd (omega (arith, h))
permutation_degrees (k ∷ ks) (i ∷ t) h = inserted_degrees k i (permutation ks t) ∙ ap (λ n. deg i + n) (permutation_degrees ks t (omega (arith, h)))

pub are_permuted : (ks : List ℕ) (t : List Plain) (As : List Type') → length ks ≡ length As → AreIndices t As → AreIndices (permutation ks t) (permutation ks As)
are_permuted [] [] [] h g = tt
are_permuted [] [] (A ∷ As) h g = absurd g
are_permuted [] (i ∷ t) As h g = tt
are_permuted (k ∷ ks) [] [] h g = tt
are_permuted (k ∷ ks) [] (A ∷ As) h g = absurd g
are_permuted (k ∷ ks) (i ∷ t) [] h g = absurd g
are_permuted (k ∷ ks) (i ∷ t) (A ∷ As) h g = are_inserted k i A (permutation ks t) (permutation ks As) g.0 (are_permuted ks t As (omega (arith, h)) g.1)

pub permuting_keeps : PermutingKeeps
permuting_keeps ks As d vs h g =
    map_keeps (permutes ks) As (permutation ks As) d
    (λ t a. let same = as_long t As a in let low = permutation_degrees ks t (h ∙ sym same) in ((are_permuted ks t As h a, omega (arith, low)), tt))
    vs (permutation ks vs)
    (λ t a. let same = as_long t As a in let worth = permutation_bases ks t vs (h ∙ sym same) (g ∙ sym same) in once (bases (permutation ks t) (permutation ks vs)) ∙ worth)
  where
    once : (n : ℕ) → 1 * n + 0 ≡ n
    once n = grind arith
