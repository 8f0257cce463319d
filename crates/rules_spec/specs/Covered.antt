-- All signatures and hints of the right sizes are given by numbers in the order of unknowns.
use Rattle.std.specs.Prelude.{◌≡◌, ℕ, List, [], ◌∷◌, length}
use Rattle.rules_spec.specs.Numbers.{Sides, Hint, Results, Copies, Multiples}
use Rattle.rules_spec.specs.Kinds.{Amount}
use Rattle.rules_spec.specs.Asked.{Ask, ResultsOf, CopiesOf, MultiplesOf, asked}
use Rattle.rules_spec.specs.Tasks.{Body, Job, unknowns, sides_count, sides_given, hints_given}
use Rattle.rules_spec.specs.Solving.{amount}

-- entries from which nothing was taken
abbrev pub Plain : List Amount → Type 0
Plain [] = Unit {0}
Plain (x ∷ xs) = (x.minus ≡ 0) × Plain xs

abbrev pub OfSize : ℕ → List Amount → Type 0
OfSize n q = (length q ≡ n) × Plain q

abbrev pub OfSizes : List ℕ → List (List Amount) → Type 0
OfSizes [] [] = Unit {0}
OfSizes (n ∷ ns) (q ∷ qs) = OfSize n q × OfSizes ns qs
OfSizes _ _ = ⊥

-- a multiple for each block, in order
abbrev pub OfBlocks : List ℕ → List (ℕ × Amount) → Type 0
OfBlocks [] [] = Unit {0}
OfBlocks (block ∷ blocks) (m ∷ ms) = (m.0 ≡ block) × (m.1.minus ≡ 0) × OfBlocks blocks ms
OfBlocks _ _ = ⊥

-- a hint is one that is asked for, and tells all that is asked for
abbrev pub OfAsk : Ask → Hint Amount → Type 0
OfAsk (ResultsOf sizes) (Results qs) = OfSizes sizes qs
OfAsk (CopiesOf size) (Copies q) = OfSize size q
OfAsk (MultiplesOf blocks) (Multiples ms) = OfBlocks blocks ms
OfAsk _ _ = ⊥

abbrev pub OfAsks : List Ask → List (Hint Amount) → Type 0
OfAsks [] [] = Unit {0}
OfAsks (ask ∷ asks) (h ∷ hs) = OfAsk ask h × OfAsks asks hs
OfAsks _ _ = ⊥

abbrev pub OfHints : List Body → List (List (Hint Amount)) → Type 0
OfHints [] [] = Unit {0}
OfHints (b ∷ bs) (hs ∷ hss) = OfAsks (asked b.plan) hs × OfHints bs hss
OfHints _ _ = ⊥

abbrev pub OfGroup : List Body → List (Sides Amount) → Type 0
OfGroup [] [] = Unit {0}
OfGroup (b ∷ bs) (s ∷ ss) = OfSize b.args s.args × OfSize b.result s.result × OfGroup bs ss
OfGroup _ _ = ⊥

abbrev pub AllAreGiven : Type 0
AllAreGiven = (j : Job) (group : List (Sides Amount)) (hss : List (List (Hint Amount))) →
    OfGroup j.bodies group → OfHints j.bodies hss →
    (x : List ℕ)
    × (length x ≡ unknowns j)
    × (sides_given (amount x) 0 j.bodies ≡ group)
    × (hints_given (amount x) (sides_count j.bodies) j.bodies ≡ hss)
