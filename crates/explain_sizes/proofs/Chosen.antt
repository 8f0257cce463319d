-- List indices over elements that are all alike.
use Rattle.std.proofs.Common.{◌≡◌, ◌≤◌, ℕ, zero, suc, ◌+◌, ◌*◌, List, [], ◌∷◌, length, All, sym, subst, arith}
use Rattle.std.proofs.lemmas.List.Elements.{All-head, All-tail}
use Rattle.raml_syntax.specs.Value.{Value}
use Rattle.base_poly.specs.Plain.{Plain, Then, entry_count}
use Rattle.base_poly.specs.Base.{base, over}
use Rattle.base_poly.specs.Laws.{choose}
use Rattle.base_poly.proofs.Sums.{over_more}

-- More elements give no fewer choices.
pub choose_grows : (m n k : ℕ) → m ≤ n → choose m k ≤ choose n k
choose_grows m n zero h = omega arith
choose_grows zero n (suc k) h = omega arith
choose_grows (suc m) zero (suc k) h = absurd (omega (arith, h))
choose_grows (suc m) (suc n) (suc k) h =
    let one = choose_grows m n k (omega (arith, h)) in let more = choose_grows m n (suc k) (omega (arith, h)) in omega (arith, one, more)

-- By a relation that sums and products keep, as equality and the order: one entry more, from what it is and what the others are.
module _ (R : ℕ → ℕ → Type 0) (none : R 0 0) (sums : (a b c d : ℕ) → R a b → R c d → R (a + c) (b + d)) (products : (a b c d : ℕ) → R a b → R c d → R (a * c) (b * d))
    (P : Value → Type 0) (i r : Plain) (a e : ℕ)
    (first : (v : Value) → P v → R (base i v) a)
    (rest : (vs : List Value) → All P vs → R (over r vs) (choose (length vs) (entry_count r) * e)) where
  pub one_entry_more : (vs : List Value) → All P vs → R (over (Then i r) vs) (choose (length vs) (suc (entry_count r)) * (a * e))
  one_entry_more [] h = let e : 0 ≡ 0 * (a * e) = grind arith in subst (R 0) e none
  one_entry_more (v ∷ vs) h =
      let here = first v (All-head P v vs h) in
      let later = All-tail P v vs h in
      let n = length vs in
      let k = entry_count r in
      let both = sums _ _ _ _ (products _ _ _ _ here (rest vs later)) (one_entry_more vs later) in
      subst (λ m. R m (choose (suc n) (suc k) * (a * e))) (sym (over_more i r v vs)) (subst (R (base i v * over r vs + over (Then i r) vs)) (regroup (choose n k) (choose n (suc k))) both)
    where
      regroup : (c d : ℕ) → a * (c * e) + d * (a * e) ≡ (c + d) * (a * e)
      regroup c d = grind arith
