-- Entries of numbers, one by one.
use Rattle.std.proofs.Common.{◌≡◌, refl, ap, ◌∙◌, arith}
use Rattle.std.specs.Prelude.{ℕ, zero, suc, ◌+◌, ◌<◌, nat_eq, cond, Bool, true, false, ℤ, pos, ◌≤ℤ◌, unsigned_abs, List, [], ◌∷◌, ◌++◌, map, length, slice_index_or}
use Rattle.std.proofs.lemmas.Int.{ints}
use Rattle.raml_num.specs.Sums.{NoneNegative}
use Rattle.annot_types.specs.Certificate.{Entries}
use Rattle.rules_spec.specs.Asked.{given}
use Rattle.rules_spec.specs.Told.{entries_from, entries}
use Rattle.constraint_gen.specs.Numbers.{entry}
use Rattle.constraint_gen.proofs.Giving.{given_more}

entries_more : (k : ℕ) (ns : List ℕ) (n : ℕ) → entries_from k ns ++ entry (k + length ns) n ≡ entries_from k (ns ++ n ∷ [])
entries_more k [] n = let e : k + 0 ≡ k = omega arith in ap (λ m. entry m n) e
entries_more k (m ∷ ns) n =
    let here : k + suc (length ns) ≡ suc k + length ns = omega arith in
    by (nat_eq m 0) (ap (λ p. entries_from (suc k) ns ++ entry p n) here ∙ entries_more (suc k) ns n) where
      by : (b : Bool) → entries_from (suc k) ns ++ entry (k + suc (length ns)) n ≡ entries_from (suc k) (ns ++ n ∷ []) →
          cond b (entries_from (suc k) ns) ((k, pos m) ∷ entries_from (suc k) ns) ++ entry (k + suc (length ns)) n ≡ cond b (entries_from (suc k) (ns ++ n ∷ [])) ((k, pos m) ∷ entries_from (suc k) (ns ++ n ∷ []))
      by true go = go
      by false go = ap (λ (l : Entries). (k, pos m) ∷ l) go

length_given : (give : ℕ → ℕ) (from n : ℕ) → length (given give from n) ≡ n
length_given give from zero = refl
length_given give from (suc n) = ap suc (length_given give (suc from) n)

pub entries_next : (give : ℕ → ℕ) (from k : ℕ) → entries (given give from k) ++ entry k (give (from + k)) ≡ entries (given give from (k + 1))
entries_next give from k =
    let place : k ≡ 0 + length (given give from k) = omega (arith, length_given give from k) in
    ap (λ p. entries (given give from k) ++ entry p (give (from + k))) place ∙ entries_more 0 (given give from k) (give (from + k)) ∙ ap entries (given_more give from k)

-- natural numbers are those of their sizes
pub natural_back : (xs : List ℤ) → NoneNegative xs → map pos (map unsigned_abs xs) ≡ xs
natural_back [] h = refl
natural_back (x ∷ xs) h = λ i. one x h.0 i ∷ natural_back xs h.1 i
  where
    one : (x : ℤ) → pos 0 ≤ℤ x → pos (unsigned_abs x) ≡ x
    one x h = grind (arith, ints, h)

pub natural_at : (xs : List ℤ) (k : ℕ) → NoneNegative xs → k < length xs → pos 0 ≤ℤ slice_index_or xs k (pos 0)
natural_at [] k h l = absurd (omega (arith, l))
natural_at (x ∷ xs) zero h l = h.0
natural_at (x ∷ xs) (suc k) h l = natural_at xs k h.1 (omega (arith, l))
