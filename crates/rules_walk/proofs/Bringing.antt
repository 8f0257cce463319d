-- Lists of entries, step by step.
use Rattle.std.proofs.Common.{◌≡◌, refl, ap, ◌∙◌, ℕ, zero, suc, ◌+◌, ◌*◌, ◌<◌, ◌≤◌, List, [], ◌∷◌, ◌++◌, length, slice_index_or, arith}
use Rattle.rules_spec.specs.Numbers.{Numbers}
use Rattle.rules_spec.specs.Walk.{at, nothing, numbers, multiples, against}

module _ {E : Type 0} (A : Numbers E) where
  pub nothing_more : (n : ℕ) → nothing A n ++ A.none ∷ [] ≡ nothing A (n + 1)
  nothing_more zero = refl
  nothing_more (suc n) = let e : suc (n + 1) ≡ suc n + 1 = omega arith in ap (λ l. A.none ∷ l) (nothing_more n) ∙ ap (nothing A) e

  -- what is made of the number at a place, and nothing behind the last
  pub number_is : (ns : List ℕ) (k n : ℕ) → k < length ns → n ≡ slice_index_or ns k n → A.number (1 * n) ≡ at A (numbers A ns) k
  number_is [] k n l e = absurd (omega (arith, l))
  number_is (m ∷ ns) zero n l e = let once : 1 * n ≡ n = omega arith in ap A.number (once ∙ e)
  number_is (m ∷ ns) (suc k) n l e = number_is ns k n (omega (arith, l)) e

  pub no_number : (ns : List ℕ) (k : ℕ) → length ns ≤ k → A.none ≡ at A (numbers A ns) k
  no_number [] k l = refl
  no_number (m ∷ ns) zero l = absurd (omega (arith, l))
  no_number (m ∷ ns) (suc k) l = no_number ns k (omega (arith, l))

  pub multiple_is : (x : E) (ns : List ℕ) (k n : ℕ) → k < length ns → n ≡ slice_index_or ns k n → A.times n x ≡ at A (multiples A x ns) k
  multiple_is x [] k n l e = absurd (omega (arith, l))
  multiple_is x (m ∷ ns) zero n l e = ap (λ j. A.times j x) e
  multiple_is x (m ∷ ns) (suc k) n l e = multiple_is x ns k n (omega (arith, l)) e

  pub no_multiple : (x : E) (ns : List ℕ) (k : ℕ) → length ns ≤ k → A.none ≡ at A (multiples A x ns) k
  no_multiple x [] k l = refl
  no_multiple x (m ∷ ns) zero l = absurd (omega (arith, l))
  no_multiple x (m ∷ ns) (suc k) l = no_multiple x ns k (omega (arith, l))

  -- what the first entry is compared with alone
  pub first_against : (q : List E) (x : E) → against A q (x ∷ []) ≡ (at A q 0, x) ∷ []
  first_against [] x = refl
  first_against (y ∷ q) x = refl
