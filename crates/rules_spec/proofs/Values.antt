-- The value of a form carries sums and multiples.
use Rattle.std.proofs.Common.{◌≡◌, refl, arith}
use Rattle.std.specs.Prelude.{ℕ, suc, ◌+◌, ◌*◌, List, [], ◌∷◌}
use Rattle.rules_spec.specs.Kinds.{Amount, weigh}
use Rattle.rules_spec.specs.Solving.{FormsCarry}

pub weigh_none : (x : List ℕ) → weigh (λ u. 0) x ≡ 0
weigh_none [] = refl
weigh_none (x ∷ xs) = omega (arith, weigh_none xs)

weigh_plus : (f g : ℕ → ℕ) (x : List ℕ) → weigh (λ u. f u + g u) x ≡ weigh f x + weigh g x
weigh_plus f g [] = refl
weigh_plus f g (x ∷ xs) = omega (arith, weigh_plus (λ u. f (suc u)) (λ u. g (suc u)) xs)

weigh_times : (n : ℕ) (f : ℕ → ℕ) (x : List ℕ) → weigh (λ u. n * f u) x ≡ n * weigh f x
weigh_times n f [] = omega arith
weigh_times n f (x ∷ xs) = grind (arith, weigh_times n (λ u. f (suc u)) xs)

pub amount_of : (p q m n : ℕ) → p ≡ q → m ≡ n → ◌≡◌ {A = Amount} (record { plus = p; minus = m }) (record { plus = q; minus = n })
amount_of p q m n e h = λ i. record { plus = e i; minus = h i }

pub forms_carry : FormsCarry
forms_carry t x = record {
  none = amount_of _ _ _ _ (omega (arith, weigh_none x)) (omega arith);
  plus = λ f g. amount_of _ _ _ _ (grind (arith, weigh_plus f.terms g.terms x)) (grind arith);
  times = λ n f. amount_of _ _ _ _ (grind (arith, weigh_times n f.terms x)) (grind arith);
  number = λ n. amount_of _ _ _ _ (omega (arith, weigh_none x)) (omega arith);
  less = λ n f. amount_of _ _ _ _ refl (grind arith);
}
