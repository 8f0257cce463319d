-- Common divisors and common multiples.
use Rattle.std.specs.Prelude.{◌≡◌, ℕ, ◌<◌, ◌≤◌, ◌^◌}
use Prim.Native.Nat.{◌∣◌}

-- no number but 1 divides both
pub record IsCoprime (a b : ℕ) : Type 0 where
  pub common : (d : ℕ) → d ∣ a → d ∣ b → d ≡ 1

-- m is the least common multiple of a and b: both divide it, and it divides each number that both divide
abbrev pub IsLcm : ℕ → ℕ → ℕ → Type 0
IsLcm a b m = (a ∣ m) × (b ∣ m) × ((n : ℕ) → a ∣ n → b ∣ n → m ∣ n)

-- no positive number that both divide fits 128 bits
abbrev pub EachCommonMultipleLeaves : ℕ → ℕ → Type 0
EachCommonMultipleLeaves a b = (n : ℕ) → 0 < n → a ∣ n → b ∣ n → 2 ^ 128 ≤ n
