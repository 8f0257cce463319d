-- Walks over small numbers.
use Rattle.std.specs.Prelude.{◌≡◌, ◌≤◌, ℕ, ◌+◌, ◌*◌, List, [], ◌∷◌, length, Some}
use Rattle.cost_free.specs.declared.task.Meter.{Meter}
use Rattle.rules_spec.specs.Numbers.{Sides, Signature, Hint, Results, Copies, Multiples, Condition}
use Rattle.rules_spec.specs.Kinds.{Amount, amounts}
use Rattle.rules_spec.specs.Tasks.{Body, Job, of_bodies}
use Rattle.rules_spec.specs.Growth.{growth}

-- an amount with the prices that were taken from it
abbrev pub size : Amount → ℕ
size a = a.plus + a.minus

abbrev pub Small : ℕ → List Amount → Type 0
Small b [] = Unit {0}
Small b (x ∷ q) = (size x ≤ b) × Small b q

abbrev pub AllSmall : ℕ → List (List Amount) → Type 0
AllSmall b [] = Unit {0}
AllSmall b (q ∷ qs) = Small b q × AllSmall b qs

abbrev pub SidesSmall : ℕ → Sides Amount → Type 0
SidesSmall b s = Small b s.args × Small b s.result

abbrev pub GroupSmall : ℕ → List (Sides Amount) → Type 0
GroupSmall b [] = Unit {0}
GroupSmall b (s ∷ ss) = SidesSmall b s × GroupSmall b ss

abbrev pub MultiplesSmall : ℕ → List (ℕ × Amount) → Type 0
MultiplesSmall b [] = Unit {0}
MultiplesSmall b (m ∷ ms) = (size m.1 ≤ b) × MultiplesSmall b ms

-- of multiples there are no more, either
abbrev pub HintSmall : ℕ → Hint Amount → Type 0
HintSmall b (Results rs) = AllSmall b rs
HintSmall b (Copies q) = Small b q
HintSmall b (Multiples ms) = MultiplesSmall b ms × (length ms ≤ b)

abbrev pub HintsSmall : ℕ → List (Hint Amount) → Type 0
HintsSmall b [] = Unit {0}
HintsSmall b (h ∷ hs) = HintSmall b h × HintsSmall b hs

abbrev pub AllHintsSmall : ℕ → List (List (Hint Amount)) → Type 0
AllHintsSmall b [] = Unit {0}
AllHintsSmall b (hs ∷ hss) = HintsSmall b hs × AllHintsSmall b hss

abbrev pub NumbersSmall : ℕ → List ℕ → Type 0
NumbersSmall b [] = Unit {0}
NumbersSmall b (n ∷ ns) = (n ≤ b) × NumbersSmall b ns

abbrev pub SignatureSmall : ℕ → Signature → Type 0
SignatureSmall b s = NumbersSmall b s.args × NumbersSmall b s.result

-- both sides of each condition together are at most b
abbrev pub TotalsSmall : ℕ → List (Condition Amount) → Type 0
TotalsSmall b [] = Unit {0}
TotalsSmall b (c ∷ cs) = (size c.left + size c.right ≤ b) × TotalsSmall b cs

abbrev pub GrowthsWithin : ℕ → ℕ → List Body → Type 0
GrowthsWithin w g [] = Unit {0}
GrowthsWithin w g (b ∷ bs) = (growth w b.plan ≤ g) × GrowthsWithin w g bs

-- The scale of a job and the signatures of its earlier blocks are at most n.
pub record JobSmall (n : ℕ) (j : Job) : Type 0 where
  pub scale : j.scale ≤ n
  pub free : (block function : ℕ) → SignatureSmall n (j.free block function)
  pub cost : (meter : Meter) (function : ℕ) (s : Signature) → j.cost meter function ≡ Some s → SignatureSmall n s

-- Where all that a job is walked with is at most n, its totals are at most n times what its plans make.
abbrev pub TotalsStaySmall : Type 0
TotalsStaySmall =
    (n g : ℕ) (j : Job) (group : List (Sides Amount)) (hints : List (List (Hint Amount))) → 1 ≤ n →
    JobSmall n j → GroupSmall n group → AllHintsSmall n hints → GrowthsWithin (1 + n * n) g j.bodies →
    TotalsSmall (g * n) (of_bodies (amounts 1) j group 0 j.bodies hints)
