-- What is made of small entries by maps.
use Rattle.std.proofs.Common.{◌≡◌, subst, ℕ, zero, suc, ◌+◌, ◌*◌, ◌≤◌, List, [], ◌∷◌, ◌++◌, slice_index_or, arith}
use Rattle.std.specs.Prelude.{slice_set}
use Rattle.std.proofs.lemmas.Nat.{mul-le}
use Rattle.index_shift.specs.declared.entry.Entry.{Entry}
use Rattle.rules_spec.specs.Numbers.{Condition}
use Rattle.rules_spec.specs.Kinds.{Amount, amounts}
use Rattle.rules_spec.specs.Plan.{Step, Part}
use Rattle.rules_spec.specs.Walk.{at, added, brought, nothing, moved, all_moved, joined, at_zero, numbers, multiples, against, numbered}
use Rattle.rules_spec.specs.Growth.{span, spans, all_spans, join_spans}
use Rattle.rules_spec.specs.Small.{size, Small, AllSmall, NumbersSmall, TotalsSmall}

pub at_most : {a b c d : ℕ} → a ≤ b → c ≤ d → a * c ≤ b * d
at_most {a} {b} {c} {d} h k = mul-le a c b d h k

pub small_more : (a b : ℕ) (q : List Amount) → a ≤ b → Small a q → Small b q
small_more a b [] l s = tt
small_more a b (x ∷ q) l s = (omega (arith, l, s.0), small_more a b q l s.1)

pub totals_more : (a b : ℕ) (cs : List (Condition Amount)) → a ≤ b → TotalsSmall a cs → TotalsSmall b cs
totals_more a b [] l s = tt
totals_more a b (c ∷ cs) l s = (omega (arith, l, s.0), totals_more a b cs l s.1)

pub totals_both : (b : ℕ) (cs ds : List (Condition Amount)) → TotalsSmall b cs → TotalsSmall b ds → TotalsSmall b (cs ++ ds)
totals_both b [] ds s t = t
totals_both b (c ∷ cs) ds s t = (s.0, totals_both b cs ds s.1 t)

pub at_small : (b : ℕ) (q : List Amount) (k : ℕ) → Small b q → size (at (amounts 1) q k) ≤ b
at_small b [] k s = omega arith
at_small b (x ∷ q) zero s = s.0
at_small b (x ∷ q) (suc k) s = at_small b q k s.1

pub items_small : (b : ℕ) (qs : List (List Amount)) (k : ℕ) → AllSmall b qs → Small b (slice_index_or qs k [])
items_small b [] k s = tt
items_small b (q ∷ qs) zero s = s.0
items_small b (q ∷ qs) (suc k) s = items_small b qs k s.1

set_small : (b : ℕ) (q : List Amount) (k : ℕ) (x : Amount) → Small b q → size x ≤ b → Small b (slice_set q k x)
set_small b [] k x s h = tt
set_small b (y ∷ q) zero x s h = (h, s.1)
set_small b (y ∷ q) (suc k) x s h = (s.0, set_small b q k x s.1 h)

pub zero_small : (b p : ℕ) (f : Amount → Amount) (q : List Amount) → ((x : Amount) → size (f x) ≤ size x + p) → Small b q → Small (b + p) (at_zero f q)
zero_small b p f [] h s = tt
zero_small b p f (x ∷ q) h s = (omega (arith, h x, s.0), small_more b (b + p) q (omega arith) s.1)

pub nothing_small : (b n : ℕ) → Small b (nothing (amounts 1) n)
nothing_small b zero = tt
nothing_small b (suc n) = (omega arith, nothing_small b n)

-- a multiple of what is small is added
times_size : (n : ℕ) (x : Amount) → n * x.plus + n * x.minus ≡ n * size x
times_size n x = grind arith

added_small : (o b : ℕ) (out : List Amount) (k n : ℕ) (x : Amount) → Small o out → size x ≤ b → Small (o + n * b) (added (amounts 1) out k n x)
added_small o b out k n x s h =
    let old = at_small o out k s in
    let more : n * size x ≤ n * b = at_most (omega arith) h in
    let same = times_size n x in
    set_small (o + n * b) out k _ (small_more o (o + n * b) out (omega arith) s) (omega (arith, old, more, same))

pub brought_small : (o b : ℕ) (out : List Amount) (es : List Entry) (q : List Amount) → Small o out → Small b q → Small (o + span es * b) (brought (amounts 1) out es q)
brought_small o b out [] q s t = small_more o (o + 0 * b) out (omega arith) s
brought_small o b out (e ∷ es) q s t =
    let both : o + e.times * b + span es * b ≡ o + (e.times + span es) * b = grind arith in
    subst (λ z. Small z (brought (amounts 1) out (e ∷ es) q)) both
    (brought_small (o + e.times * b) b _ es q (added_small o b out e.to e.times _ s (at_small b q e.from t)) t)

pub moved_small : (b : ℕ) (s : Step) (q : List Amount) → Small b q → Small (span s.entries * b) (moved (amounts 1) s q)
moved_small b s q t = small_more (0 + span s.entries * b) (span s.entries * b) _ (omega arith) (brought_small 0 b _ s.entries q (nothing_small 0 s.size) t)

pub all_moved_small : (b : ℕ) (ss : List Step) (q : List Amount) → Small b q → Small (spans ss * b) (all_moved (amounts 1) ss q)
all_moved_small b [] q t = small_more b (1 * b) q (omega arith) t
all_moved_small b (s ∷ ss) q t =
    let both : spans ss * (span s.entries * b) ≡ spans ss * span s.entries * b = grind arith in
    subst (λ z. Small z (all_moved (amounts 1) (s ∷ ss) q)) both (all_moved_small (span s.entries * b) ss _ (moved_small b s q t))

pub joined_small : (o b : ℕ) (out : List Amount) (j : ℕ) (parts : List Part) (rs : List (List Amount)) → Small o out → AllSmall b rs → Small (o + join_spans parts * b) (joined (amounts 1) out j parts rs)
joined_small o b out j [] rs s t = small_more o (o + 0 * b) out (omega arith) s
joined_small o b out j (part ∷ parts) rs s t =
    let both : o + span part.joins * b + join_spans parts * b ≡ o + (span part.joins + join_spans parts) * b = grind arith in
    subst (λ z. Small z (joined (amounts 1) out j (part ∷ parts) rs)) both
    (joined_small (o + span part.joins * b) b _ (suc j) parts rs (brought_small o b out part.joins _ s (items_small b rs j t)) t)

pub numbers_small : (b : ℕ) (ns : List ℕ) → NumbersSmall b ns → Small b (numbers (amounts 1) ns)
numbers_small b [] s = tt
numbers_small b (n ∷ ns) s = (omega (arith, s.0), numbers_small b ns s.1)

pub multiples_small : (a b : ℕ) (x : Amount) (ns : List ℕ) → size x ≤ b → NumbersSmall a ns → Small (a * b) (multiples (amounts 1) x ns)
multiples_small a b x [] h s = tt
multiples_small a b x (n ∷ ns) h s =
    let more : n * size x ≤ a * b = at_most s.0 h in
    let same = times_size n x in
    (omega (arith, more, same), multiples_small a b x ns h s.1)

-- pairs of sides
abbrev pub PairsSmall : ℕ → List (Amount × Amount) → Type 0
PairsSmall b [] = Unit {0}
PairsSmall b (e ∷ es) = (size e.0 + size e.1 ≤ b) × PairsSmall b es

pub numbered_small : (b : ℕ) (path : List ℕ) (i : ℕ) (es : List (Amount × Amount)) → PairsSmall b es → TotalsSmall b (numbered path i es)
numbered_small b path i [] s = tt
numbered_small b path i (e ∷ es) s = (s.0, numbered_small b path (suc i) es s.1)

pub pairs_both : (b : ℕ) (es fs : List (Amount × Amount)) → PairsSmall b es → PairsSmall b fs → PairsSmall b (es ++ fs)
pairs_both b [] fs s t = t
pairs_both b (e ∷ es) fs s t = (s.0, pairs_both b es fs s.1 t)

pub against_small : (a b c : ℕ) (q r : List Amount) → a + b ≤ c → Small a q → Small b r → PairsSmall c (against (amounts 1) q r)
against_small a b c q [] l s t = tt
against_small a b c [] (y ∷ r) l s t = (omega (arith, l, t.0), against_small a b c [] r l s t.1)
against_small a b c (x ∷ q) (y ∷ r) l s t = (omega (arith, l, s.0, t.0), against_small a b c q r l s.1 t.1)

pub span_within : (ess : List (List Entry)) (k : ℕ) → span (slice_index_or ess k []) ≤ all_spans ess
span_within [] k = omega arith
span_within (es ∷ ess) zero = omega arith
span_within (es ∷ ess) (suc k) = omega (arith, span_within ess k)
