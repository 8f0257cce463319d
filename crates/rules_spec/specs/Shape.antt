-- The hints of a certificate that are those that a plan asks for.
use Rattle.std.specs.Prelude.{ℕ, unsigned_abs, List, [], ◌∷◌, ◌++◌, Contains}
use Rattle.annot_types.specs.Certificate as c
use Rattle.annot_types.specs.Certificate.{Entries, annotation, Rise}
use Rattle.rules_spec.specs.Numbers.{Hint, Results, Copies, Multiples}
use Rattle.rules_spec.specs.Kinds.{Amount}
use Rattle.rules_spec.specs.Asked.{Ask, ResultsOf, CopiesOf, MultiplesOf}
use Rattle.rules_spec.specs.Stand.{Within, Answered}
use Rattle.rules_spec.specs.Found.{listed, amounts_of}

-- for each number of positions an annotation that has its positions there
abbrev pub EachWithin : List ℕ → List Entries → Type 0
EachWithin [] [] = Unit {0}
EachWithin (n ∷ ns) (es ∷ ess) = Within n es × EachWithin ns ess
EachWithin _ _ = ⊥

-- the blocks that are named are among these
abbrev pub AreAmong : List ℕ → Entries → Type 0
AreAmong blocks [] = Unit {0}
AreAmong blocks (m ∷ ms) = Contains blocks m.0 × AreAmong blocks ms

-- A hint of the kind that is asked for, in whose range it stays. That the positions of annotations ascend, and that
-- their numbers are positive, is a fact of annotations; multiples have to be looked at.
abbrev pub FitsAsk : Ask → c.Hint → Type 0
FitsAsk (ResultsOf sizes) (c.Let results) = EachWithin sizes results
FitsAsk (CopiesOf size) (c.Share copies) = Within size copies
FitsAsk (MultiplesOf blocks) (c.Call multiples) = Rise multiples × AreAmong blocks multiples
FitsAsk _ _ = ⊥

-- one for each that is asked for, and no more
abbrev pub FitAsks : List Ask → List c.Hint → Type 0
FitAsks [] [] = Unit {0}
FitAsks (ask ∷ asks) (h ∷ hs) = FitsAsk ask h × FitAsks asks hs
FitAsks _ _ = ⊥

-- the entries of n positions, as which an annotation is walked
abbrev pub amounts_at : ℕ → Entries → List Amount
amounts_at n es = amounts_of (listed n (annotation es))

abbrev pub each_amounts : List ℕ → List Entries → List (List Amount)
each_amounts (n ∷ ns) (es ∷ ess) = amounts_at n es ∷ each_amounts ns ess
each_amounts _ _ = []

abbrev pub multiples_at : Entries → List (ℕ × Amount)
multiples_at [] = []
multiples_at (m ∷ ms) = (m.0, record { plus = unsigned_abs m.1; minus = 0 }) ∷ multiples_at ms

-- as what a hint of a certificate is walked
abbrev pub hint_at : Ask → c.Hint → List (Hint Amount)
hint_at (ResultsOf sizes) (c.Let results) = Results (each_amounts sizes results) ∷ []
hint_at (CopiesOf size) (c.Share copies) = Copies (amounts_at size copies) ∷ []
hint_at (MultiplesOf blocks) (c.Call multiples) = Multiples (multiples_at multiples) ∷ []
hint_at _ _ = []

abbrev pub hints_at : List Ask → List c.Hint → List (Hint Amount)
hints_at (ask ∷ asks) (h ∷ hs) = hint_at ask h ++ hints_at asks hs
hints_at _ _ = []

-- Hints of that shape answer all that is asked for, as what they are walked.
abbrev pub FittingAnswer : Type 0
FittingAnswer = (asks : List Ask) (hs : List c.Hint) → FitAsks asks hs → Answered asks hs (hints_at asks hs) [] []
