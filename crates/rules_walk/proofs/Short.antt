-- Products of short numbers.
use Rattle.std.proofs.Common.{ℕ, ◌*◌, ◌^◌, ◌<◌, arith}
use Rattle.std.proofs.lemmas.Nat.{mul-lt}

pub short_product : (a b : ℕ) → a < 2 ^ 64 → b < 2 ^ 64 → a * b < 2 ^ 128
short_product a b h k =
    let l : a * b < 2 ^ 64 * 2 ^ 64 = mul-lt a b (2 ^ 64) (2 ^ 64) h k in
    omega arith
