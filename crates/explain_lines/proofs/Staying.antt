-- Lines that stay mended.
use Rattle.std.proofs.Common.{◌≡◌, refl, ap, subst, ◌⊎◌, inl, inr, ℕ, zero, suc, ◌+◌, Bool, true, false, List, [], ◌∷◌, ◌++◌, length, Some, arith}
use Rattle.std.specs.Prelude.{cond, not, ◌&&◌, slice_get}
use Rattle.std.proofs.lemmas.Bool.{and_parts, and_from, or_cases, or_left, or_right, cases_Bool}
use Rattle.cost_free.specs.declared.task.Meter.{Meter}
use Rattle.cost_free.specs.declared.task.Meter.TheVariants.{Ticks, Cells, Work}
use Rattle.explain_degrees.specs.Degrees.{finding_of}
use Rattle.explain_degrees.specs.declared.finding.Findings.{Findings}
use Rattle.explain_lines.specs.Lines.{is_bounded, is_bounded_at}
use Rattle.explain_lines.specs.Mended.{Line, if_mended, mended_at, mended_from, mended_lines, has_bounds, mends, mends_function, mends_group}
use Rattle.explain_lines.specs.Laws.{MendedLinesHaveBounds, GroupsStayMended}

-- ---- bounds of two lists of lines

both_have : (all : List Findings) (xs ys : List Line) → has_bounds all xs ≡ true → has_bounds all ys ≡ true → has_bounds all (xs ++ ys) ≡ true
both_have all [] ys first second = second
both_have all (x ∷ xs) ys first second =
    let parts = and_parts (is_bounded_at all x.fun x.meter) (has_bounds all xs) first in
    and_from _ _ parts.0 (both_have all xs ys parts.1 second)

each_has : (all : List Findings) (xs ys : List Line) → has_bounds all (xs ++ ys) ≡ true → (has_bounds all xs ≡ true) × (has_bounds all ys ≡ true)
each_has all [] ys has = (refl, has)
each_has all (x ∷ xs) ys has =
    let parts = and_parts (is_bounded_at all x.fun x.meter) (has_bounds all (xs ++ ys)) has in
    let rest = each_has all xs ys parts.1 in
    (and_from _ _ parts.0 rest.0, rest.1)

-- ---- a change has bounds of the lines that it mends

-- the functions of the list are those from a place on
abbrev AreFrom : List Findings → ℕ → List Findings → Type 0
AreFrom all k news = (i : ℕ) → slice_get all (k + i) ≡ slice_get news i

if_mended_has : (all : List Findings) (k : ℕ) (old new : Findings) (meter : Meter) → slice_get all k ≡ Some new → has_bounds all (if_mended k old new meter) ≡ true
if_mended_has all k old new meter there = go (not (is_bounded (finding_of old meter))) (is_bounded (finding_of new meter)) refl
  where
    go : (b c : Bool) → is_bounded (finding_of new meter) ≡ c → has_bounds all (cond (b && c) (record { fun = k; meter = meter } ∷ []) []) ≡ true
    go false c is = refl
    go true false is = refl
    go true true is = and_from _ _ (rw there is) refl

mended_has : (all : List Findings) (k : ℕ) (olds news : List Findings) → AreFrom all k news → has_bounds all (mended_from k olds news) ≡ true
mended_has all k [] news are = refl
mended_has all k (o ∷ olds) [] are = refl
mended_has all k (o ∷ olds) (n ∷ news) are =
    let here : slice_get all k ≡ Some n = subst (λ j. slice_get all j ≡ Some n) (omega arith) (are 0) in
    let later : AreFrom all (k + 1) news = λ i. subst (λ j. slice_get all j ≡ slice_get news i) (omega arith) (are (suc i)) in
    both_have all (mended_at k o n) (mended_from (k + 1) olds news)
    (both_have all (if_mended k o n Ticks) (if_mended k o n Cells ++ if_mended k o n Work) (if_mended_has all k o n Ticks here)
    (both_have all (if_mended k o n Cells) (if_mended k o n Work) (if_mended_has all k o n Cells here) (if_mended_has all k o n Work here)))
    (mended_has all (k + 1) olds news later)

pub mended_lines_have_bounds : MendedLinesHaveBounds
mended_lines_have_bounds old new = mended_has new 0 old new (λ i. ap (slice_get new) (omega arith))

-- ---- a line that one change mends

if_mended_tells : (later : List Findings) (k : ℕ) (old new : Findings) (meter : Meter) → is_bounded (finding_of old meter) ≡ false →
    is_bounded (finding_of new meter) ≡ true → has_bounds later (if_mended k old new meter) ≡ true → is_bounded_at later k meter ≡ true
if_mended_tells later k old new meter before after has =
    let is = rw (before, after) at has in
    (and_parts (is_bounded_at later k meter) true is).0

mended_at_tells : (later : List Findings) (k : ℕ) (old new : Findings) (meter : Meter) → is_bounded (finding_of old meter) ≡ false →
    is_bounded (finding_of new meter) ≡ true → has_bounds later (mended_at k old new) ≡ true → is_bounded_at later k meter ≡ true
mended_at_tells later k old new Ticks before after has =
    if_mended_tells later k old new Ticks before after (each_has later (if_mended k old new Ticks) (if_mended k old new Cells ++ if_mended k old new Work) has).0
mended_at_tells later k old new Cells before after has =
    let rest = (each_has later (if_mended k old new Ticks) (if_mended k old new Cells ++ if_mended k old new Work) has).1 in
    if_mended_tells later k old new Cells before after (each_has later (if_mended k old new Cells) (if_mended k old new Work) rest).0
mended_at_tells later k old new Work before after has =
    let rest = (each_has later (if_mended k old new Ticks) (if_mended k old new Cells ++ if_mended k old new Work) has).1 in
    if_mended_tells later k old new Work before after (each_has later (if_mended k old new Cells) (if_mended k old new Work) rest).1

mended_tells : (later : List Findings) (k : ℕ) (olds news : List Findings) (i : ℕ) (meter : Meter) → length news ≡ length olds → is_bounded_at olds i meter ≡ false →
    is_bounded_at news i meter ≡ true → has_bounds later (mended_from k olds news) ≡ true → is_bounded_at later (k + i) meter ≡ true
mended_tells later k olds [] i meter same before after has = absurd (cc)
mended_tells later k [] (n ∷ news) i meter same before after has = absurd (omega arith)
mended_tells later k (o ∷ olds) (n ∷ news) zero meter same before after has =
    let here = (each_has later (mended_at k o n) (mended_from (k + 1) olds news) has).0 in
    subst (λ j. is_bounded_at later j meter ≡ true) (omega arith) (mended_at_tells later k o n meter before after here)
mended_tells later k (o ∷ olds) (n ∷ news) (suc i) meter same before after has =
    let rest = (each_has later (mended_at k o n) (mended_from (k + 1) olds news) has).1 in
    subst (λ j. is_bounded_at later j meter ≡ true) (omega arith)
    (mended_tells later (k + 1) olds news i meter (omega (arith, same)) before after rest)

-- ---- groups

stays : (old new later : List Findings) (f : ℕ) (meter : Meter) → length new ≡ length old → has_bounds later (mended_lines old new) ≡ true →
    mends old new f meter ≡ true → mends old later f meter ≡ true
stays old new later f meter same has mended = go (cases_Bool (is_bounded_at old f meter)) (or_cases (is_bounded_at old f meter) (is_bounded_at new f meter) mended)
  where
    go : (is_bounded_at old f meter ≡ true) ⊎ (is_bounded_at old f meter ≡ false) → (is_bounded_at old f meter ≡ true) ⊎ (is_bounded_at new f meter ≡ true) →
        mends old later f meter ≡ true
    go (inl before) any = or_left _ _ before
    go (inr before) (inl is) = or_left _ _ is
    go (inr before) (inr after) =
        or_right _ _ (subst (λ j. is_bounded_at later j meter ≡ true) (omega arith) (mended_tells later 0 old new f meter same before after has))

pub groups_stay_mended : GroupsStayMended
groups_stay_mended old new later [] same mended has = refl
groups_stay_mended old new later (f ∷ group) same mended has =
    let parts = and_parts (mends_function old new f) (mends_group old new group) mended in
    let ticks = and_parts (mends old new f Ticks) (mends old new f Cells && mends old new f Work) parts.0 in
    let cells = and_parts (mends old new f Cells) (mends old new f Work) ticks.1 in
    let stay : (meter : Meter) → mends old new f meter ≡ true → mends old later f meter ≡ true = λ meter. stays old new later f meter same has in
    and_from _ _ (and_from _ _ (stay Ticks ticks.0) (and_from _ _ (stay Cells cells.0) (stay Work cells.1)))
    (groups_stay_mended old new later group same parts.1 has)
