-- The sums of unknowns that the code keeps.
use Rattle.std.specs.Prelude.{◌≡◌, ◌<◌, ◌≤◌, ◌==◌, if◌then◌else◌, ℕ, ◌+◌, ◌-◌, ◌*◌, ◌^◌, nat_lt, cond, List, [], ◌∷◌, map, length}
use Rattle.std.specs.Prelude.{slice_index_or}
use Rattle.rules_spec.specs.Numbers.{Numbers}
use Rattle.rules_spec.specs.Kinds.{Form}
use Rattle.rules_spec.specs.Capped.{cap}

-- unknowns, and how often each is taken
abbrev pub Terms : Type 0
Terms = List (ℕ × ℕ)

-- terms, a number, and the prices that were taken
pub record Sum : Type 0 where
  pub terms : Terms
  pub plus : ℕ
  pub minus : ℕ

-- how often the terms take the unknown together
abbrev pub total_of : ℕ → Terms → ℕ
total_of u [] = 0
total_of u (t ∷ ts) = (if t.0 == u then t.1 else 0) + total_of u ts

-- The unknown is taken n times more: at its term, or at a new one before the first greater unknown.
abbrev pub put : ℕ → ℕ → Terms → Terms
put u n [] = (u, n) ∷ []
put u n (t ∷ ts) = if t.0 == u then (u, cap (t.1 + n)) ∷ ts else cond (nat_lt u t.0) ((u, n) ∷ t ∷ ts) (t ∷ put u n ts)

abbrev pub put_all : Terms → Terms → Terms
put_all [] ts = ts
put_all (x ∷ xs) ts = put_all xs (put x.0 x.1 ts)

abbrev pub scaled : ℕ → Terms → Terms
scaled n ts = map (λ (t : ℕ × ℕ). (t.0, cap (n * t.1))) ts

abbrev pub sums : Numbers Sum
sums = record {
  none = record { terms = []; plus = 0; minus = 0 };
  plus = λ x y. record { terms = put_all y.terms x.terms; plus = cap (x.plus + y.plus); minus = cap (x.minus + y.minus) };
  times = λ n x. record { terms = scaled n x.terms; plus = cap (n * x.plus); minus = cap (n * x.minus) };
  number = λ n. record { terms = []; plus = cap n; minus = 0 };
  less = λ n x. record { terms = x.terms; plus = x.plus; minus = cap (x.minus + n) };
}

abbrev pub unknown : ℕ → Sum
unknown u = record { terms = (u, 1) ∷ []; plus = 0; minus = 0 }

-- such a sum as one whose coefficients are a function
abbrev pub form_of : Sum → Form
form_of s = record { terms = λ u. cap (total_of u s.terms); plus = s.plus; minus = s.minus }

abbrev pub unknown_at : Terms → ℕ → ℕ
unknown_at ts i = let term = slice_index_or ts i (0, 0) in term.0

abbrev pub number_at : Terms → ℕ → ℕ
number_at ts i = let term = slice_index_or ts i (0, 0) in term.1

-- the unknowns ascend, and the numbers have 128 bits
pub record IsSum (ts : Terms) : Type 0 where
  pub ascending : (i j : ℕ) → i < j → j < length ts → unknown_at ts i < unknown_at ts j
  pub capped : (i : ℕ) → i < length ts → number_at ts i ≤ 2 ^ 128 - 1

-- the term at place i has the unknown
pub record IsAt (ts : Terms) (u i : ℕ) : Type 0 where
  pub in_range : i < length ts
  pub has_unknown : unknown_at ts i ≡ u

-- a term of the unknown would go at place i
pub record IsGapFor (ts : Terms) (u i : ℕ) : Type 0 where
  pub in_range : i ≤ length ts
  pub lesser_before : (j : ℕ) → j < i → unknown_at ts j < u
  pub greater_after : (j : ℕ) → i ≤ j → j < length ts → u < unknown_at ts j

-- no term has a lesser unknown
abbrev pub StartsFrom : ℕ → Terms → Type 0
StartsFrom u [] = Unit {0}
StartsFrom u (t ∷ ts) = u ≤ t.0

-- how often the first term takes the unknown
abbrev pub first_number : ℕ → Terms → ℕ
first_number u [] = 0
first_number u (t ∷ ts) = if t.0 == u then t.1 else 0

-- the terms, without a first one of the unknown
abbrev pub behind : ℕ → Terms → Terms
behind u [] = []
behind u (t ∷ ts) = if t.0 == u then ts else t ∷ ts
