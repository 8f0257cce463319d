-- What a row and a lead are multiplied by.
use Rattle.std.proofs.Common.{◌≡◌, refl, sym, ◌∙◌, ℕ, ◌-◌, ◌*◌, ◌<◌, ◌≤◌, ◌^◌, ℤ, pos, ◌+ℤ◌, ◌*ℤ◌, ◌<ℤ◌, unsigned_abs, Option, Some, None, IfSome, FitsSigned, to_z, of_z, w64, arith}
use Rattle.std.specs.Int.{w128}
use Rattle.std.proofs.lemmas.Int.{ints, unsigned_abs-mul, fits_signed_from_abs, to_z-of_z}
use Rattle.std.proofs.lemmas.Nat.{mul-le}
use Rattle.simplex_rows.specs.Sharing.{Shares}
use Rattle.simplex_rows.specs.declared.factors.Factors.{Factors}
use Rattle.simplex_rows.proofs.Divisors.{positive_factor}

pub by_divisor : (n d g own times : ℤ) → pos 0 <ℤ d → pos 0 <ℤ g → own *ℤ g ≡ d → times *ℤ g ≡ n → Shares n d own times
by_divisor n d g own times p q h k = record { divisor = g; own_positive = positive_factor own g d q p h; divisor_positive = q; number_is = sym k; den_is = sym h }

-- products of numbers of 64 bits
product_size : (a b : ℤ) (m n : ℕ) → unsigned_abs a ≤ m → unsigned_abs b ≤ n → unsigned_abs (a *ℤ b) ≤ m * n
product_size a b m n h k = rw (unsigned_abs-mul a b) (mul-le (unsigned_abs a) (unsigned_abs b) m n h k)

pub sizes_fit : (a b c d : ℤ) → unsigned_abs a < 2 ^ 63 → unsigned_abs b ≤ 2 ^ 63 → unsigned_abs c ≤ 2 ^ 63 → unsigned_abs d ≤ 2 ^ 63 → unsigned_abs (a *ℤ b +ℤ c *ℤ d) < 2 ^ 127
sizes_fit a b c d h k l m =
    let p : unsigned_abs (a *ℤ b) ≤ (2 ^ 63 - 1) * 2 ^ 63 = product_size a b (2 ^ 63 - 1) (2 ^ 63) (omega arith) k in
    let q : unsigned_abs (c *ℤ d) ≤ 2 ^ 63 * 2 ^ 63 = product_size c d (2 ^ 63) (2 ^ 63) l m in
    omega (arith, ints)

-- the sum of two products as the code makes it, in 128 bits
abbrev pub made : ℤ → ℤ → ℤ → ℤ → ℤ
made a b c d = to_z w128 (of_z w128 (to_z w128 (of_z w128 a) *ℤ to_z w128 (of_z w128 b))) +ℤ to_z w128 (of_z w128 (to_z w128 (of_z w128 c) *ℤ to_z w128 (of_z w128 d)))

module _ (a b c d : ℤ) (h : unsigned_abs a < 2 ^ 63) (k : unsigned_abs b ≤ 2 ^ 63) (l : unsigned_abs c ≤ 2 ^ 63) (m : unsigned_abs d ≤ 2 ^ 63) where
  wide : (n : ℤ) → unsigned_abs n ≤ 2 ^ 63 → to_z w128 (of_z w128 n) ≡ n
  wide n f = to_z-of_z w128 n (fits_signed_from_abs w128 n (omega arith))

  first_kept : to_z w128 (of_z w128 (a *ℤ b)) ≡ a *ℤ b
  first_kept = (let p : unsigned_abs (a *ℤ b) ≤ (2 ^ 63 - 1) * 2 ^ 63 = product_size a b (2 ^ 63 - 1) (2 ^ 63) (omega arith) k in to_z-of_z w128 (a *ℤ b) (fits_signed_from_abs w128 (a *ℤ b) (omega arith)))

  second_kept : to_z w128 (of_z w128 (c *ℤ d)) ≡ c *ℤ d
  second_kept = (let p : unsigned_abs (c *ℤ d) ≤ 2 ^ 63 * 2 ^ 63 = product_size c d (2 ^ 63) (2 ^ 63) l m in to_z-of_z w128 (c *ℤ d) (fits_signed_from_abs w128 (c *ℤ d) (omega arith)))

  pub made_is : made a b c d ≡ a *ℤ b +ℤ c *ℤ d
  made_is = rw (wide a (omega arith), wide b k, wide c l, wide d m, first_kept, second_kept) refl

  pub made_fits : FitsSigned w128 (made a b c d)
  made_fits = rw made_is (fits_signed_from_abs w128 (a *ℤ b +ℤ c *ℤ d) (sizes_fit a b c d h k l m))

  pub made_kept : to_z w128 (of_z w128 (made a b c d)) ≡ a *ℤ b +ℤ c *ℤ d
  made_kept = to_z-of_z w128 (made a b c d) made_fits ∙ made_is

-- sizes of numbers of 64 bits
pub positive_size : (n : ℤ) → FitsSigned w64 n → pos 0 <ℤ n → unsigned_abs n < 2 ^ 63
positive_size n f p = let s = f.sfits in omega (arith, ints)

pub any_size : (n : ℤ) → FitsSigned w64 n → unsigned_abs n ≤ 2 ^ 63
any_size n f = let s = f.sfits in omega (arith, ints)

pub size_size : (n : ℤ) → FitsSigned w64 n → unsigned_abs (pos (unsigned_abs n)) ≤ 2 ^ 63
size_size n f = any_size n f

pub some_shares : (o : Option Factors) (number den own times : ℤ) → IfSome o (λ f. f.own ≡ own) → IfSome o (λ f. f.times ≡ times) → Shares number den own times → IfSome o (λ f. Shares number den f.own f.times)
some_shares None number den own times e k s = tt
some_shares (Some f) number den own times e k s = rw (e, k) s
