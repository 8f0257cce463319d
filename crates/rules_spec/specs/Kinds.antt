-- The two kinds of number: exact amounts, and sums of unknowns.
use Rattle.std.specs.Prelude.{ℕ, zero, suc, ◌+◌, ◌*◌, ◌≤◌, List, [], ◌∷◌}
use Rattle.rules_spec.specs.Numbers.{Numbers, Condition}

-- a number less the prices that were taken from it
pub record Amount : Type 0 where
  pub plus : ℕ
  pub minus : ℕ

-- What is told stands as it is, and prices and the numbers of earlier blocks t times.
abbrev pub amounts : ℕ → Numbers Amount
amounts t = record {
  none = record { plus = 0; minus = 0 };
  plus = λ x y. record { plus = x.plus + y.plus; minus = x.minus + y.minus };
  times = λ n x. record { plus = n * x.plus; minus = n * x.minus };
  number = λ n. record { plus = t * n; minus = 0 };
  less = λ n x. record { plus = x.plus; minus = x.minus + t * n };
}

-- a sum of unknowns, each so many times, and of a number, less the prices that were taken from it
pub record Form : Type 0 where
  pub terms : ℕ → ℕ
  pub plus : ℕ
  pub minus : ℕ

abbrev pub forms : Numbers Form
forms = record {
  none = record { terms = λ u. 0; plus = 0; minus = 0 };
  plus = λ x y. record { terms = λ u. x.terms u + y.terms u; plus = x.plus + y.plus; minus = x.minus + y.minus };
  times = λ n x. record { terms = λ u. n * x.terms u; plus = n * x.plus; minus = n * x.minus };
  number = λ n. record { terms = λ u. 0; plus = n; minus = 0 };
  less = λ n x. record { terms = x.terms; plus = x.plus; minus = x.minus + n };
}

-- 1 at the first number and 0 at all others
abbrev pub one_at : ℕ → ℕ → ℕ
one_at zero zero = 1
one_at zero (suc u) = 0
one_at (suc v) zero = 0
one_at (suc v) (suc u) = one_at v u

-- an unknown once
abbrev pub unknown : ℕ → Form
unknown v = record { terms = one_at v; plus = 0; minus = 0 }

-- the sum of the numbers, each as often as its place says
abbrev pub weigh : (ℕ → ℕ) → List ℕ → ℕ
weigh f [] = 0
weigh f (x ∷ xs) = f 0 * x + weigh (λ u. f (suc u)) xs

-- the amount that a sum is where the unknowns are these numbers over t
abbrev pub value : ℕ → List ℕ → Form → Amount
value t x f = record { plus = weigh f.terms x + t * f.plus; minus = t * f.minus }

-- The totals of a condition: its sides, and to each the prices that were taken from the other.
abbrev pub total_left : Condition Amount → ℕ
total_left c = c.left.plus + c.right.minus

abbrev pub total_right : Condition Amount → ℕ
total_right c = c.right.plus + c.left.minus

abbrev pub Meets : Condition Amount → Type 0
Meets c = total_right c ≤ total_left c

abbrev pub AllMeet : List (Condition Amount) → Type 0
AllMeet [] = Unit {0}
AllMeet (c ∷ cs) = Meets c × AllMeet cs
