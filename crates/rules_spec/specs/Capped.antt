-- Amounts that stand at the greatest number of 128 bits where they would leave it.
use Rattle.std.specs.Prelude.{◌≡◌, ℕ, ◌+◌, ◌*◌, ◌-◌, ◌^◌, min, List, map}
use Rattle.rules_spec.specs.Numbers.{Numbers, Condition}
use Rattle.rules_spec.specs.Kinds.{Amount, amounts}
use Rattle.rules_spec.specs.Carried.{WalksCarry, condition_to}
use Rattle.rules_spec.specs.Faults.{first_fault}

abbrev pub cap : ℕ → ℕ
cap n = min n (2 ^ 128 - 1)

abbrev pub capped : Numbers Amount
capped = record {
  none = record { plus = 0; minus = 0 };
  plus = λ x y. record { plus = cap (x.plus + y.plus); minus = cap (x.minus + y.minus) };
  times = λ n x. record { plus = cap (n * x.plus); minus = cap (n * x.minus) };
  number = λ n. record { plus = cap n; minus = 0 };
  less = λ n x. record { plus = x.plus; minus = cap (x.minus + n) };
}

abbrev pub capped_amount : Amount → Amount
capped_amount a = record { plus = cap a.plus; minus = cap a.minus }

-- The walk over capped amounts is that over exact ones, capped.
abbrev pub CappedWalks : Type 0
CappedWalks = WalksCarry (amounts 1) capped capped_amount

-- The first fault of capped amounts is that of the exact ones.
abbrev pub CappedFaults : Type 0
CappedFaults = (cs : List (Condition Amount)) → first_fault (map (condition_to capped_amount) cs) ≡ first_fault cs
