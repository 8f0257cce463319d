-- Degrees in 32 bits.
use Rattle.std.proofs.Common.{◌≡◌, ℕ, ◌<◌, ◌^◌, arith}
use Rattle.std.proofs.Math.Nat.{min-eq_left}
use Rattle.std.specs.Ordering.{ordering_then, nat_cmp}
use Rattle.base_poly.specs.Plain.{degrees, capped}
use Rattle.base_poly.specs.Laws.{TuplesAreOrdered}
use Rattle.base_poly.specs.Total.{order_many}

pub capped_is : (n : ℕ) → n < 2 ^ 32 → capped n ≡ n
capped_is n h = min-eq_left (omega (arith, h))

pub tuples_are_ordered : TuplesAreOrdered
tuples_are_ordered t u low_t low_u =
    λ n. ordering_then (nat_cmp (capped_is (degrees t) low_t n) (capped_is (degrees u) low_u n)) (order_many t u n)
