-- The sum of numbers of which none is negative, term by term.
use Rattle.std.proofs.Common.{◌≡◌, FitsSigned, ℕ, ◌+◌, ◌<◌, length, List, [], ◌∷◌, get_or, drop, drop-cons, add-one, ℤ, pos, ◌+ℤ◌, ◌≤ℤ◌, arith, sym, subst, ap, refl, ◌∙◌}
use Rattle.std.proofs.lemmas.Int.{ints}
use Rattle.std.specs.Int.{w128}
use Rattle.raml_num.specs.Sums.{total, NoneNegative}

-- s is the sum of the first i terms
pub record IsSumSoFar (xs : List ℤ) (i : ℕ) (s : ℤ) : Type 0 where
  pub whole : s +ℤ total (drop i xs) ≡ total xs
  pub low : pos 0 ≤ℤ s
  pub rest : NoneNegative (drop i xs)

drop-term : (xs : List ℤ) (i : ℕ) → i < length xs → drop i xs ≡ get_or xs i (pos 0) ∷ drop (i + 1) xs
drop-term xs i h = rw add-one (drop-cons xs i (pos 0) h)

total_is_low : (xs : List ℤ) → NoneNegative xs → pos 0 ≤ℤ total xs
total_is_low [] h = omega (arith, ints)
total_is_low (x ∷ xs) h = let r : pos 0 ≤ℤ total xs = total_is_low xs h.1 in let q : pos 0 ≤ℤ x = h.0 in omega (arith, ints)

pub one_more : (xs : List ℤ) (i : ℕ) (s n : ℤ) → i < length xs → IsSumSoFar xs i s → n ≡ s +ℤ get_or xs i (pos 0) → IsSumSoFar xs (i + 1) n
one_more xs i s n h k e =
    let r = subst NoneNegative (drop-term xs i h) k.rest in
    let t : s +ℤ (get_or xs i (pos 0) +ℤ total (drop (i + 1) xs)) ≡ total xs = ap (λ (v : List ℤ). s +ℤ total v) (sym (drop-term xs i h)) ∙ k.whole in
    let p : pos 0 ≤ℤ get_or xs i (pos 0) = r.0 in
    let q : pos 0 ≤ℤ s = k.low in
    record { whole = omega (arith, ints); low = omega (arith, ints); rest = r.1 }

-- where the sum of the first i + 1 terms does not fit, the whole sum does not
pub too_large : (xs : List ℤ) (i : ℕ) (s : ℤ) → i < length xs → IsSumSoFar xs i s → (FitsSigned w128 (s +ℤ get_or xs i (pos 0)) → ⊥) → FitsSigned w128 (total xs) → ⊥
too_large xs i s h k n g =
    let m : IsSumSoFar xs (i + 1) (s +ℤ get_or xs i (pos 0)) = one_more xs i s (s +ℤ get_or xs i (pos 0)) h k refl in
    let r : pos 0 ≤ℤ total (drop (i + 1) xs) = total_is_low _ m.rest in
    let q : pos 0 ≤ℤ (s +ℤ get_or xs i (pos 0)) = m.low in
    let t : (s +ℤ get_or xs i (pos 0)) +ℤ total (drop (i + 1) xs) ≡ total xs = m.whole in
    n (omega (arith, ints))
