-- All signatures and hints of the right sizes are given by numbers in the order of unknowns.
use Rattle.std.proofs.Common.{◌≡◌, refl, ap, sym, ◌∙◌, arith, append_assoc, append-nil, length-append, subst}
use Rattle.std.specs.Prelude.{ℕ, suc, ◌+◌, List, [], ◌∷◌, ◌++◌, map, length, slice_index_or}
use Rattle.rules_spec.specs.Numbers.{Sides, Hint, Results, Copies, Multiples}
use Rattle.rules_spec.specs.Kinds.{Amount}
use Rattle.rules_spec.specs.Asked.{Ask, ResultsOf, CopiesOf, MultiplesOf, asked, sum_of, count, counts, given, given_each, given_blocks, answer, answers}
use Rattle.rules_spec.specs.Tasks.{Body, sides_count, hints_count, sides_given, hints_given}
use Rattle.rules_spec.specs.Solving.{amount}
use Rattle.rules_spec.specs.Covered.{Plain, OfSizes, OfBlocks, OfAsk, OfAsks, OfHints, OfGroup, AllAreGiven}

-- the number behind others
behind : (before : List ℕ) (n : ℕ) (rest : List ℕ) → slice_index_or (before ++ n ∷ rest) (length before) 0 ≡ n
behind [] n rest = refl
behind (b ∷ before) n rest = behind before n rest

one_more : (before : List ℕ) (n : ℕ) (rest : List ℕ) → before ++ n ∷ rest ≡ (before ++ n ∷ []) ++ rest
one_more before n rest = sym (append_assoc before (n ∷ []) rest)

one_longer : (before : List ℕ) (n : ℕ) → length (before ++ n ∷ []) ≡ suc (length before)
one_longer before n = length-append before (n ∷ []) ∙ omega arith

amount_is : (y : Amount) → y.minus ≡ 0 → ◌≡◌ {A = Amount} (record { plus = y.plus; minus = 0 }) y
amount_is y h = λ i. record { plus = y.plus; minus = sym h i }

abbrev plain : List Amount → List ℕ
plain q = map (λ (y : Amount). y.plus) q

-- What is given from a place on: the numbers stand behind others, and before others.
abbrev Gives : {X : Type 0} → (List ℕ → ℕ → X) → List ℕ → X → Type 0
Gives f ns y = (before rest : List ℕ) → f (before ++ (ns ++ rest)) (length before) ≡ y

given_is : (q : List Amount) → Plain q → Gives (λ x from. given (amount x) from (length q)) (plain q) q
given_is [] h before rest = refl
given_is (y ∷ q) h before rest =
    let x = before ++ (y.plus ∷ (plain q ++ rest)) in
    λ i. (ap (λ n. record { plus = n; minus = 0 }) (behind before y.plus (plain q ++ rest)) ∙ amount_is y h.0) i
    ∷ ((λ j. given (amount (one_more before y.plus (plain q ++ rest) j)) (sym (one_longer before y.plus) j) (length q)) ∙ given_is q h.1 (before ++ y.plus ∷ []) rest) i

-- two things, one behind the other
then_gives : {X Y Z : Type 0} (f : List ℕ → ℕ → X) (g : List ℕ → ℕ → Y) (pair : X → Y → Z) (k : ℕ) (ns ms : List ℕ) (y : X) (z : Y) → length ns ≡ k → Gives f ns y → Gives g ms z →
    Gives (λ x from. pair (f x from) (g x (from + k))) (ns ++ ms) (pair y z)
then_gives f g pair k ns ms y z l a b before rest =
    let whole : before ++ ((ns ++ ms) ++ rest) ≡ before ++ (ns ++ (ms ++ rest)) = ap (λ t. before ++ t) (append_assoc ns ms rest) in
    let other : before ++ (ns ++ (ms ++ rest)) ≡ (before ++ ns) ++ (ms ++ rest) = sym (append_assoc before ns (ms ++ rest)) in
    let far : length before + k ≡ length (before ++ ns) = omega (arith, length-append before ns, l) in
    λ i. pair ((ap (λ x. f x (length before)) whole ∙ a before (ms ++ rest)) i) (((λ j. g ((whole ∙ other) j) (far j)) ∙ b (before ++ ns) rest) i)

plain_length : (q : List Amount) → length (plain q) ≡ length q
plain_length [] = refl
plain_length (y ∷ q) = ap suc (plain_length q)

sized : (q : List Amount) (n : ℕ) → length q ≡ n → Plain q → Gives (λ x from. given (amount x) from n) (plain q) q
sized q n l h = subst (λ n. Gives (λ x from. given (amount x) from n) (plain q) q) l (given_is q h)

abbrev each_numbers : List (List Amount) → List ℕ
each_numbers [] = []
each_numbers (q ∷ qs) = plain q ++ each_numbers qs

each_is : (ns : List ℕ) (qs : List (List Amount)) → OfSizes ns qs → Gives (λ x from. given_each (amount x) from ns) (each_numbers qs) qs
each_is [] [] h = λ before rest. refl
each_is [] (q ∷ qs) h = absurd h
each_is (n ∷ ns) [] h = absurd h
each_is (n ∷ ns) (q ∷ qs) h =
    then_gives (λ x from. given (amount x) from n) (λ x from. given_each (amount x) from ns) (λ a b. a ∷ b) n (plain q) (each_numbers qs) q qs (plain_length q ∙ h.0.0) (sized q n h.0.0 h.0.1) (each_is ns qs h.1)

abbrev block_numbers : List (ℕ × Amount) → List ℕ
block_numbers [] = []
block_numbers (m ∷ ms) = m.1.plus ∷ block_numbers ms

blocks_is : (bs : List ℕ) (ms : List (ℕ × Amount)) → OfBlocks bs ms → Gives (λ x from. given_blocks (amount x) from bs) (block_numbers ms) ms
blocks_is [] [] h = λ before rest. refl
blocks_is [] (m ∷ ms) h = absurd h
blocks_is (b ∷ bs) [] h = absurd h
blocks_is (b ∷ bs) (m ∷ ms) h = λ before rest.
    let same : ◌≡◌ {A = ℕ × Amount} (b, record { plus = m.1.plus; minus = 0 }) m = λ i. (sym h.0 i, amount_is m.1 h.1 i) in
    λ i. ((λ j. (b, record { plus = behind before m.1.plus (block_numbers ms ++ rest) j; minus = 0 })) ∙ same) i
    ∷ ((λ j. given_blocks (amount (one_more before m.1.plus (block_numbers ms ++ rest) j)) (sym (one_longer before m.1.plus) j) bs) ∙ blocks_is bs ms h.2 (before ++ m.1.plus ∷ []) rest) i

abbrev hint_numbers : Hint Amount → List ℕ
hint_numbers (Results qs) = each_numbers qs
hint_numbers (Copies q) = plain q
hint_numbers (Multiples ms) = block_numbers ms

each_length : (ns : List ℕ) (qs : List (List Amount)) → OfSizes ns qs → length (each_numbers qs) ≡ sum_of ns
each_length [] [] h = refl
each_length [] (q ∷ qs) h = absurd h
each_length (n ∷ ns) [] h = absurd h
each_length (n ∷ ns) (q ∷ qs) h = omega (arith, length-append (plain q) (each_numbers qs), plain_length q, h.0.0, each_length ns qs h.1)

block_length : (bs : List ℕ) (ms : List (ℕ × Amount)) → OfBlocks bs ms → length (block_numbers ms) ≡ length bs
block_length [] [] h = refl
block_length [] (m ∷ ms) h = absurd h
block_length (b ∷ bs) [] h = absurd h
block_length (b ∷ bs) (m ∷ ms) h = ap suc (block_length bs ms h.2)

hint_length : (k : Ask) (h : Hint Amount) → OfAsk k h → length (hint_numbers h) ≡ count k
hint_length (ResultsOf ns) (Results qs) h = each_length ns qs h
hint_length (ResultsOf ns) (Copies q) h = absurd h
hint_length (ResultsOf ns) (Multiples ms) h = absurd h
hint_length (CopiesOf n) (Copies q) h = plain_length q ∙ h.0
hint_length (CopiesOf n) (Results qs) h = absurd h
hint_length (CopiesOf n) (Multiples ms) h = absurd h
hint_length (MultiplesOf bs) (Multiples ms) h = block_length bs ms h
hint_length (MultiplesOf bs) (Results qs) h = absurd h
hint_length (MultiplesOf bs) (Copies q) h = absurd h

hint_is : (k : Ask) (h : Hint Amount) → OfAsk k h → Gives (λ x from. answer (amount x) from k) (hint_numbers h) h
hint_is (ResultsOf ns) (Results qs) h = λ before rest. ap Results (each_is ns qs h before rest)
hint_is (ResultsOf ns) (Copies q) h = absurd h
hint_is (ResultsOf ns) (Multiples ms) h = absurd h
hint_is (CopiesOf n) (Copies q) h = λ before rest. ap Copies (sized q n h.0 h.1 before rest)
hint_is (CopiesOf n) (Results qs) h = absurd h
hint_is (CopiesOf n) (Multiples ms) h = absurd h
hint_is (MultiplesOf bs) (Multiples ms) h = λ before rest. ap Multiples (blocks_is bs ms h before rest)
hint_is (MultiplesOf bs) (Results qs) h = absurd h
hint_is (MultiplesOf bs) (Copies q) h = absurd h

abbrev list_numbers : List (Hint Amount) → List ℕ
list_numbers [] = []
list_numbers (h ∷ hs) = hint_numbers h ++ list_numbers hs

list_length : (ks : List Ask) (hs : List (Hint Amount)) → OfAsks ks hs → length (list_numbers hs) ≡ counts ks
list_length [] [] h = refl
list_length [] (x ∷ hs) h = absurd h
list_length (k ∷ ks) [] h = absurd h
list_length (k ∷ ks) (x ∷ hs) h = omega (arith, length-append (hint_numbers x) (list_numbers hs), hint_length k x h.0, list_length ks hs h.1)

list_is : (ks : List Ask) (hs : List (Hint Amount)) → OfAsks ks hs → Gives (λ x from. answers (amount x) from ks) (list_numbers hs) hs
list_is [] [] h = λ before rest. refl
list_is [] (x ∷ hs) h = absurd h
list_is (k ∷ ks) [] h = absurd h
list_is (k ∷ ks) (x ∷ hs) h =
    then_gives (λ x from. answer (amount x) from k) (λ x from. answers (amount x) from ks) (λ a b. a ∷ b) (count k) (hint_numbers x) (list_numbers hs) x hs (hint_length k x h.0) (hint_is k x h.0) (list_is ks hs h.1)

abbrev all_numbers : List (List (Hint Amount)) → List ℕ
all_numbers [] = []
all_numbers (hs ∷ hss) = list_numbers hs ++ all_numbers hss

all_length : (bs : List Body) (hss : List (List (Hint Amount))) → OfHints bs hss → length (all_numbers hss) ≡ hints_count bs
all_length [] [] h = refl
all_length [] (x ∷ hss) h = absurd h
all_length (b ∷ bs) [] h = absurd h
all_length (b ∷ bs) (hs ∷ hss) h = omega (arith, length-append (list_numbers hs) (all_numbers hss), list_length (asked b.plan) hs h.0, all_length bs hss h.1)

all_is : (bs : List Body) (hss : List (List (Hint Amount))) → OfHints bs hss → Gives (λ x from. hints_given (amount x) from bs) (all_numbers hss) hss
all_is [] [] h = λ before rest. refl
all_is [] (x ∷ hss) h = absurd h
all_is (b ∷ bs) [] h = absurd h
all_is (b ∷ bs) (hs ∷ hss) h =
    then_gives (λ x from. answers (amount x) from (asked b.plan)) (λ x from. hints_given (amount x) from bs) (λ a b. a ∷ b) (counts (asked b.plan)) (list_numbers hs) (all_numbers hss) hs hss
    (list_length (asked b.plan) hs h.0) (list_is (asked b.plan) hs h.0) (all_is bs hss h.1)

abbrev side_numbers : Sides Amount → List ℕ
side_numbers s = plain s.args ++ plain s.result

abbrev group_numbers : List (Sides Amount) → List ℕ
group_numbers [] = []
group_numbers (s ∷ ss) = side_numbers s ++ group_numbers ss

group_length : (bs : List Body) (ss : List (Sides Amount)) → OfGroup bs ss → length (group_numbers ss) ≡ sides_count bs
group_length [] [] h = refl
group_length [] (s ∷ ss) h = absurd h
group_length (b ∷ bs) [] h = absurd h
group_length (b ∷ bs) (s ∷ ss) h =
    omega (arith, length-append (side_numbers s) (group_numbers ss), length-append (plain s.args) (plain s.result), plain_length s.args, plain_length s.result, h.0.0, h.1.0, group_length bs ss h.2)

group_is : (bs : List Body) (ss : List (Sides Amount)) → OfGroup bs ss → Gives (λ x from. sides_given (amount x) from bs) (group_numbers ss) ss
group_is [] [] h = λ before rest. refl
group_is [] (s ∷ ss) h = absurd h
group_is (b ∷ bs) [] h = absurd h
group_is (b ∷ bs) (s ∷ ss) h =
    let long : length (side_numbers s) ≡ b.args + b.result = omega (arith, length-append (plain s.args) (plain s.result), plain_length s.args, plain_length s.result, h.0.0, h.1.0) in
    then_gives (λ x from. record { args = given (amount x) from b.args; result = given (amount x) (from + b.args) b.result }) (λ x from. sides_given (amount x) from bs) (λ a b. a ∷ b)
    (b.args + b.result) (side_numbers s) (group_numbers ss) s ss long
    (then_gives (λ x from. given (amount x) from b.args) (λ x from. given (amount x) from b.result) (λ a b. record { args = a; result = b }) b.args (plain s.args) (plain s.result) s.args s.result
    (plain_length s.args ∙ h.0.0) (sized s.args b.args h.0.0 h.0.1) (sized s.result b.result h.1.0 h.1.1)) (group_is bs ss h.2)

pub all_are_given : AllAreGiven
all_are_given j group hss g h =
    let x = group_numbers group ++ all_numbers hss in (
      x,
      omega (arith, length-append (group_numbers group) (all_numbers hss), group_length j.bodies group g, all_length j.bodies hss h),
      group_is j.bodies group g [] (all_numbers hss),
      ((λ i. hints_given (amount (group_numbers group ++ sym (append-nil (all_numbers hss)) i)) (sym (group_length j.bodies group g) i) j.bodies) ∙ all_is j.bodies hss h (group_numbers group) []),
    )
