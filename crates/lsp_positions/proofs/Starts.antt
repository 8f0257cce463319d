-- Where lines start.
use Rattle.std.proofs.Common.{◌≡◌, refl, sym, ◌∙◌, subst, ℕ, zero, suc, ◌+◌, ◌-◌, ◌<◌, ◌≤◌, ◌⊎◌, inl, inr, Bool, true, false, cond, ◌&&◌, ◌||◌, not, List, [], ◌∷◌, length, drop, get_or, nat_eq, nat_le, Result, Ok, Err, arith}
use Rattle.std.specs.Ordering.{nat_cmp}
use Rattle.std.specs.List.Sorted.{IsBinarySearchResult}
use Rattle.std.specs.Result.{MatchResult}
use Rattle.std.proofs.lemmas.List.Sorted.{searched}
use Rattle.std.proofs.lemmas.Bool.{cases_lt}
use Rattle.std.proofs.lemmas.Bool.Decides.{nat_tests}
use Rattle.lsp_positions.specs.Lines.{is_newline, ends_line, starts_behind, line_starts, how_many, line_at}

pub is_le : (m n : ℕ) → m ≤ n → nat_le m n ≡ true
is_le m n h = grind (arith, nat_tests)

pub is_more : (m n : ℕ) → n < m → nat_le m n ≡ false
is_more m n h = grind (arith, nat_tests)

pub le_from : (m n : ℕ) → nat_le m n ≡ true → m ≤ n
le_from m n h = grind (arith, nat_tests)

pub more_from : (m n : ℕ) → nat_le m n ≡ false → n < m
more_from m n h = grind (arith, nat_tests)

-- each is behind the one before it
abbrev Ascends : ℕ → List ℕ → Type 0
Ascends low [] = Unit {0}
Ascends low (x ∷ xs) = (low < x) × Ascends x xs

starts_ascend : (low place : ℕ) (bytes : List ℕ) → low ≤ place → Ascends low (starts_behind place bytes)
starts_ascend low place [] h = tt
starts_ascend low place (b ∷ bytes) h =
    go (ends_line b bytes) (starts_ascend (place + 1) (place + 1) bytes (omega arith)) (starts_ascend low (place + 1) bytes (omega (arith, h)))
  where
    go : (t : Bool) → Ascends (place + 1) (starts_behind (place + 1) bytes) → Ascends low (starts_behind (place + 1) bytes) →
        Ascends low (cond t ((place + 1) ∷ starts_behind (place + 1) bytes) (starts_behind (place + 1) bytes))
    go true from_here from_low = (omega (arith, h), from_here)
    go false from_here from_low = from_low

all_above : (low : ℕ) (xs : List ℕ) → Ascends low xs → (i : ℕ) → i < length xs → low < get_or xs i 0
all_above low [] h i few = absurd (omega (arith, few))
all_above low (x ∷ xs) h zero few = h.0
all_above low (x ∷ xs) h (suc i) few =
    let later : x < get_or xs i 0 = all_above x xs h.1 i (omega (arith, few)) in
    let first : low < x = h.0 in
    omega (arith, later, first)

all_rise : (low : ℕ) (xs : List ℕ) → Ascends low xs → (i j : ℕ) → i < j → j < length xs → get_or xs i 0 < get_or xs j 0
all_rise low [] h i j less few = absurd (omega (arith, few))
all_rise low (x ∷ xs) h i zero less few = absurd (omega (arith, less))
all_rise low (x ∷ xs) h zero (suc j) less few = all_above x xs h.1 j (omega (arith, few))
all_rise low (x ∷ xs) h (suc i) (suc j) less few = all_rise x xs h.1 i j (omega (arith, less)) (omega (arith, few))

pub starts_rise : (text : List ℕ) (i j : ℕ) → i < j → j < length (line_starts text) → get_or (line_starts text) i 0 < get_or (line_starts text) j 0
starts_rise text i zero less few = absurd (omega (arith, less))
starts_rise text zero (suc j) less few = all_above 0 (starts_behind 0 text) (starts_ascend 0 0 text (omega arith)) j (omega (arith, few))
starts_rise text (suc i) (suc j) less few = all_rise 0 (starts_behind 0 text) (starts_ascend 0 0 text (omega arith)) i j (omega (arith, less)) (omega (arith, few))

pub starts_no_less : (text : List ℕ) (i j : ℕ) → i ≤ j → j < length (line_starts text) → get_or (line_starts text) i 0 ≤ get_or (line_starts text) j 0
starts_no_less text i j le few = go (cases_lt i j)
  where
    go : (i < j) ⊎ (j ≤ i) → get_or (line_starts text) i 0 ≤ get_or (line_starts text) j 0
    go (inl less) = let h = starts_rise text i j less few in omega (arith, h)
    go (inr same) = let e : i ≡ j = omega (arith, le, same) in subst (λ k. get_or (line_starts text) i 0 ≤ get_or (line_starts text) k 0) e (omega arith)

-- what stands before a start, of the bytes from a place on
pub record IsStart (place : ℕ) (bytes : List ℕ) (start : ℕ) : Type 0 where
  pub behind : place < start
  pub within : start ≤ place + length bytes
  pub ends : ends_line (get_or bytes (start - 1 - place) 0) (drop (start - place) bytes) ≡ true

pub ending_is_ascii : (b : ℕ) (bytes : List ℕ) → ends_line b bytes ≡ true → b < 128
ending_is_ascii b bytes e = go (cases_lt b 128)
  where
    go : (b < 128) ⊎ (128 ≤ b) → b < 128
    go (inl small) = small
    go (inr large) =
        let one : nat_eq b 10 ≡ false = grind (arith, nat_tests) in
        let two : nat_eq b 13 ≡ false = grind (arith, nat_tests) in
        let wrong : false ≡ true = (λ i. sym one i || (sym two i && not (is_newline (get_or bytes 0 0)))) ∙ e in
        absurd (cc wrong)

start_is : (place : ℕ) (bytes : List ℕ) (i : ℕ) → i < length (starts_behind place bytes) → IsStart place bytes (get_or (starts_behind place bytes) i 0)
start_is place [] i few = absurd (omega (arith, few))
start_is place (b ∷ bytes) i few = go (ends_line b bytes) refl i few (λ j h. start_is (place + 1) bytes j h)
  where
    later : (start : ℕ) → IsStart (place + 1) bytes start → IsStart place (b ∷ bytes) start
    later start h =
        let e : start - 1 - place ≡ suc (start - 1 - (place + 1)) = omega (arith, h.behind) in
        let f : start - place ≡ suc (start - (place + 1)) = omega (arith, h.behind) in
        record {
          behind = omega (arith, h.behind);
          within = omega (arith, h.within);
          ends = (λ i. ends_line (get_or (b ∷ bytes) (e i) 0) (drop (f i) (b ∷ bytes))) ∙ h.ends;
        }

    go : (t : Bool) → ends_line b bytes ≡ t → (i : ℕ) → i < length (cond t ((place + 1) ∷ starts_behind (place + 1) bytes) (starts_behind (place + 1) bytes)) →
        ((j : ℕ) → j < length (starts_behind (place + 1) bytes) → IsStart (place + 1) bytes (get_or (starts_behind (place + 1) bytes) j 0)) →
        IsStart place (b ∷ bytes) (get_or (cond t ((place + 1) ∷ starts_behind (place + 1) bytes) (starts_behind (place + 1) bytes)) i 0)
    go true e zero few others =
        let first : place + 1 - 1 - place ≡ 0 = omega arith in
        let one : place + 1 - place ≡ 1 = omega arith in
        record { behind = omega arith; within = omega arith; ends = (λ i. ends_line (get_or (b ∷ bytes) (first i) 0) (drop (one i) (b ∷ bytes))) ∙ e }
    go true e (suc i) few others = later (get_or (starts_behind (place + 1) bytes) i 0) (others i (omega (arith, few)))
    go false e i few others = later (get_or (starts_behind (place + 1) bytes) i 0) (others i few)

-- what holds of the start of each line but the first
pub start_of_line : (text : List ℕ) (line : ℕ) → suc line < length (line_starts text) → IsStart 0 text (get_or (line_starts text) (suc line) 0)
start_of_line text line few = start_is 0 text line (omega (arith, few))

pub start_within : (text : List ℕ) (line : ℕ) → line < length (line_starts text) → get_or (line_starts text) line 0 ≤ length text
start_within text zero few = omega arith
start_within text (suc line) few = let s = start_of_line text line few in omega (arith, s.within)

-- each place behind the end of a line is a start
pub record IsAmong (xs : List ℕ) (x : ℕ) : Type 0 where
  pub at : ℕ
  pub within : at < length xs
  pub is : get_or xs at 0 ≡ x

among_starts : (place : ℕ) (bytes : List ℕ) (k : ℕ) → k < length bytes → ends_line (get_or bytes k 0) (drop (suc k) bytes) ≡ true → IsAmong (starts_behind place bytes) (place + suc k)
among_starts place [] k few e = absurd (omega (arith, few))
among_starts place (b ∷ bytes) zero few e =
    subst (λ t. IsAmong (cond t ((place + 1) ∷ starts_behind (place + 1) bytes) (starts_behind (place + 1) bytes)) (place + 1)) (sym e)
    (record { at = 0; within = omega arith; is = refl })
among_starts place (b ∷ bytes) (suc k) few e = go (ends_line b bytes) (among_starts (place + 1) bytes k (omega (arith, few)) e)
  where
    sum : place + 1 + suc k ≡ place + suc (suc k)
    sum = omega arith

    go : (t : Bool) → IsAmong (starts_behind (place + 1) bytes) (place + 1 + suc k) →
        IsAmong (cond t ((place + 1) ∷ starts_behind (place + 1) bytes) (starts_behind (place + 1) bytes)) (place + suc (suc k))
    go true h = record { at = suc h.at; within = omega (arith, h.within); is = h.is ∙ sum }
    go false h = record { at = h.at; within = h.within; is = h.is ∙ sum }

pub start_behind : (text : List ℕ) (k : ℕ) → k < length text → ends_line (get_or text k 0) (drop (suc k) text) ≡ true → IsAmong (line_starts text) (suc k)
start_behind text k few e =
    let a = among_starts 0 text k few e in
    let sum : 0 + suc k ≡ suc k = omega arith in
    record { at = suc a.at; within = omega (arith, a.within); is = a.is ∙ sum }

-- counts

pub counted : (test : ℕ → Bool) (xs : List ℕ) (r : ℕ) → r ≤ length xs → ((k : ℕ) → k < r → test (get_or xs k 0) ≡ true) →
    ((k : ℕ) → r ≤ k → k < length xs → test (get_or xs k 0) ≡ false) → how_many test xs ≡ r
counted test [] r few passes fails = omega (arith, few)
counted test (x ∷ xs) zero few passes fails =
    let rest : how_many test xs ≡ 0 = counted test xs 0 (omega arith) (λ k h. absurd (omega (arith, h))) (λ k h more. fails (suc k) (omega arith) (omega (arith, more))) in
    (λ i. cond (fails 0 (omega arith) (omega arith) i) 1 0 + rest i)
counted test (x ∷ xs) (suc r) few passes fails =
    let rest : how_many test xs ≡ r = counted test xs r (omega (arith, few)) (λ k h. passes (suc k) (omega (arith, h))) (λ k h more. fails (suc k) (omega (arith, h)) (omega (arith, more))) in
    let sum : 1 + r ≡ suc r = omega arith in
    (λ i. cond (passes 0 (omega arith) i) 1 0 + rest i) ∙ sum

record IsCount (xs : List ℕ) (place r : ℕ) : Type 0 where
  within : r ≤ length xs
  below : (k : ℕ) → k < r → get_or xs k 0 ≤ place
  above : (k : ℕ) → r ≤ k → k < length xs → place < get_or xs k 0

count_is : (low : ℕ) (xs : List ℕ) (place : ℕ) → Ascends low xs → IsCount xs place (how_many (λ start. nat_le start place) xs)
count_is low [] place h = record { within = omega arith; below = λ k few. absurd (omega (arith, few)); above = λ k few more. absurd (omega (arith, more)) }
count_is low (x ∷ xs) place h = go (nat_le x place) refl (count_is x xs place h.1)
  where
    go : (t : Bool) → nat_le x place ≡ t → IsCount xs place (how_many (λ start. nat_le start place) xs) →
        IsCount (x ∷ xs) place (cond t 1 0 + how_many (λ start. nat_le start place) xs)
    go true e c = record { within = omega (arith, c.within); below = under; above = over }
      where
        under : (k : ℕ) → k < 1 + how_many (λ start. nat_le start place) xs → get_or (x ∷ xs) k 0 ≤ place
        under zero few = le_from x place e
        under (suc k) few = c.below k (omega (arith, few))

        over : (k : ℕ) → 1 + how_many (λ start. nat_le start place) xs ≤ k → k < length (x ∷ xs) → place < get_or (x ∷ xs) k 0
        over zero few more = absurd (omega (arith, few))
        over (suc k) few more = c.above k (omega (arith, few)) (omega (arith, more))
    go false e c =
        let first : place < x = more_from x place e in
        let none : how_many (λ start. nat_le start place) xs ≡ 0 =
        counted (λ start. nat_le start place) xs 0 (omega arith) (λ k few. absurd (omega (arith, few)))
        (λ k few more. let later = all_above x xs h.1 k more in is_more (get_or xs k 0) place (omega (arith, later, first))) in
        record { within = omega (arith, none); below = λ k few. absurd (omega (arith, few, none)); above = over first }
      where
        over : place < x → (k : ℕ) → 0 + how_many (λ start. nat_le start place) xs ≤ k → k < length (x ∷ xs) → place < get_or (x ∷ xs) k 0
        over first zero few more = first
        over first (suc k) few more = let later = all_above x xs h.1 k (omega (arith, more)) in omega (arith, later, first)

-- the line of a place starts no later than the place, and the next line later
pub record IsLine (text : List ℕ) (place line : ℕ) : Type 0 where
  pub within : line < length (line_starts text)
  pub start : get_or (line_starts text) line 0 ≤ place
  pub next : (k : ℕ) → line < k → k < length (line_starts text) → place < get_or (line_starts text) k 0

pub line_is : (text : List ℕ) (place : ℕ) → IsLine text place (line_at text place)
line_is text place = at (line_at text place) (count_is 0 (starts_behind 0 text) place (starts_ascend 0 0 text (omega arith)))
  where
    at : (r : ℕ) → IsCount (starts_behind 0 text) place r → IsLine text place r
    at r c = record { within = omega (arith, c.within); start = here r c; next = later }
      where
        here : (r : ℕ) → IsCount (starts_behind 0 text) place r → get_or (line_starts text) r 0 ≤ place
        here zero c = omega arith
        here (suc r) c = c.below r (omega arith)

        later : (k : ℕ) → r < k → k < length (line_starts text) → place < get_or (line_starts text) k 0
        later zero few more = absurd (omega (arith, few))
        later (suc k) few more = c.above k (omega (arith, few)) (omega (arith, more))

-- there is one such line
pub line_from : (text : List ℕ) (place line : ℕ) → IsLine text place line → line_at text place ≡ line
line_from text place line h = counted (λ start. nat_le start place) (starts_behind 0 text) line (omega (arith, h.within)) below above
  where
    below : (k : ℕ) → k < line → nat_le (get_or (starts_behind 0 text) k 0) place ≡ true
    below k few =
        let less : get_or (starts_behind 0 text) k 0 ≤ get_or (line_starts text) line 0 = starts_no_less text (suc k) line (omega (arith, few)) h.within in
        is_le (get_or (starts_behind 0 text) k 0) place (omega (arith, less, h.start))

    above : (k : ℕ) → line ≤ k → k < length (starts_behind 0 text) → nat_le (get_or (starts_behind 0 text) k 0) place ≡ false
    above k few more = is_more (get_or (starts_behind 0 text) k 0) place (h.next (suc k) (omega (arith, few)) (omega (arith, more)))

-- what a search in the starts answers
pub line_found : (text starts : List ℕ) (place line : ℕ) → starts ≡ line_starts text → line < length starts → get_or starts line 0 ≡ place → IsLine text place line
line_found text starts place line e few here =
    subst (λ xs. line < length xs → get_or xs line 0 ≡ place → IsLine text place line) (sym e)
    (λ few here. record { within = few; start = omega (arith, here); next = λ k less more. let later = starts_rise text line k less more in omega (arith, later, here) }) few here

pub line_before : (text starts : List ℕ) (place next : ℕ) → starts ≡ line_starts text → next ≤ length starts → ((k : ℕ) → k < next → get_or starts k 0 < place) →
    ((k : ℕ) → next ≤ k → k < length starts → place < get_or starts k 0) → (0 < next) × IsLine text place (next - 1)
line_before text starts place next e few below above =
    subst (λ xs. next ≤ length xs → ((k : ℕ) → k < next → get_or xs k 0 < place) → ((k : ℕ) → next ≤ k → k < length xs → place < get_or xs k 0) → (0 < next) × IsLine text place (next - 1)) (sym e)
    (at next) few below above
  where
    at : (next : ℕ) → next ≤ length (line_starts text) → ((k : ℕ) → k < next → get_or (line_starts text) k 0 < place) →
        ((k : ℕ) → next ≤ k → k < length (line_starts text) → place < get_or (line_starts text) k 0) → (0 < next) × IsLine text place (next - 1)
    at zero few below above = let wrong = above 0 (omega arith) (omega arith) in absurd (omega (arith, wrong))
    at (suc n) few below above =
        let last = below n (omega arith) in
        (omega arith, record { within = omega (arith, few); start = omega (arith, last); next = λ k less more. above k (omega (arith, less)) more })

pub line_by_search : (text starts : List ℕ) (place : ℕ) (r : Result ℕ ℕ) → starts ≡ line_starts text → IsBinarySearchResult (λ y. nat_cmp y place) starts r →
    MatchResult r (IsLine text place) (λ next. (0 < next) × IsLine text place (next - 1))
line_by_search text starts place r e h = at r (searched starts place r h (λ i j le few. subst (λ xs. j < length xs → get_or xs i 0 ≤ get_or xs j 0) (sym e) (λ few. starts_no_less text i j le few) few))
  where
    at : (r : Result ℕ ℕ) → MatchResult r (λ i. (i < length starts) × (get_or starts i 0 ≡ place)) (λ i. (i ≤ length starts) × ((k : ℕ) → k < i → get_or starts k 0 < place) × ((k : ℕ) → i ≤ k → k < length starts → place < get_or starts k 0)) →
        MatchResult r (IsLine text place) (λ next. (0 < next) × IsLine text place (next - 1))
    at (Ok line) f = line_found text starts place line e f.0 f.1
    at (Err next) f = line_before text starts place next e f.0 f.1 f.2

pub start_no_later : (text starts : List ℕ) (place line : ℕ) → starts ≡ line_starts text → IsLine text place line → get_or starts line 0 ≤ place
start_no_later text starts place line e h = subst (λ xs. get_or xs line 0 ≤ place) (sym e) h.start

pub start_in_text : (text starts : List ℕ) (line : ℕ) → starts ≡ line_starts text → line < length starts → get_or starts line 0 ≤ length text
start_in_text text starts line e few = subst (λ xs. line < length xs → get_or xs line 0 ≤ length text) (sym e) (λ few. start_within text line few) few
