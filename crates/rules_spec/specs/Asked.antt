-- The hints that a plan asks for, in the order of the walk, and hints that numbers in this order give.
use Rattle.std.specs.Prelude.{ℕ, zero, suc, ◌+◌, List, [], ◌∷◌, ◌++◌, map, length, slice_index_or}
use Rattle.rules_spec.specs.Plan as p
use Rattle.rules_spec.specs.Plan.{Part}
use Rattle.rules_spec.specs.Numbers.{Hint, Results, Copies, Multiples}

-- A hint that is asked for: how many positions the result has at each tuple, or the context with both copies has, or
-- the blocks whose signatures may be taken.
pub data Ask : Type 0 where
  ResultsOf : List ℕ → Ask
  CopiesOf : ℕ → Ask
  MultiplesOf : List ℕ → Ask

-- of a Let's bound form, by what its plan at each budget asks for
abbrev pub each_asked : List (List Ask) → List Part → List Ask
each_asked budgets [] = []
each_asked budgets (part ∷ parts) = slice_index_or budgets part.degree [] ++ each_asked budgets parts

abbrev mutual
  pub asked : p.Plan → List Ask
  asked (p.Ends n cells steps) = []
  asked (p.Pays n ticks e) = asked e
  asked (p.Moves n step e) = asked e
  asked (p.Forks n step a other b) = asked a ++ asked b
  asked (p.Shares n size step e) = CopiesOf size ∷ asked e
  asked (p.Calls n c) = MultiplesOf c.usable ∷ []
  asked (p.Lets n parts firsts size e) =
      ResultsOf (map (λ (part : Part). part.size) parts) ∷ (each_asked (all_asked firsts) parts ++ asked e)

  pub all_asked : p.Plans → List (List Ask)
  all_asked p.NoPlans = []
  all_asked (p.More e es) = asked e ∷ all_asked es

-- how many numbers give a hint
abbrev pub sum_of : List ℕ → ℕ
sum_of [] = 0
sum_of (n ∷ ns) = n + sum_of ns

abbrev pub count : Ask → ℕ
count (ResultsOf sizes) = sum_of sizes
count (CopiesOf size) = size
count (MultiplesOf blocks) = length blocks

abbrev pub counts : List Ask → ℕ
counts [] = 0
counts (ask ∷ asks) = count ask + counts asks

-- The entries of what is asked for, in the order of unknowns: that of an unknown is what it is taken to.
module _ {E : Type 0} (give : ℕ → E) where
  abbrev pub given : ℕ → ℕ → List E
  given from zero = []
  given from (suc n) = give from ∷ given (suc from) n

  abbrev pub given_each : ℕ → List ℕ → List (List E)
  given_each from [] = []
  given_each from (n ∷ ns) = given from n ∷ given_each (from + n) ns

  abbrev pub given_blocks : ℕ → List ℕ → List (ℕ × E)
  given_blocks from [] = []
  given_blocks from (block ∷ blocks) = (block, give from) ∷ given_blocks (suc from) blocks

  abbrev pub answer : ℕ → Ask → Hint E
  answer from (ResultsOf sizes) = Results (given_each from sizes)
  answer from (CopiesOf size) = Copies (given from size)
  answer from (MultiplesOf blocks) = Multiples (given_blocks from blocks)

  abbrev pub answers : ℕ → List Ask → List (Hint E)
  answers from [] = []
  answers from (ask ∷ asks) = answer from ask ∷ answers (from + count ask) asks

-- the hints behind those that are asked for
abbrev pub behind_asked : {H : Type 0} → List Ask → List H → List H
behind_asked [] hs = hs
behind_asked (ask ∷ asks) [] = behind_asked asks []
behind_asked (ask ∷ asks) (h ∷ hs) = behind_asked asks hs
