-- From a place to its position and back.
use Rattle.std.proofs.Common.{◌≡◌, refl, ap, sym, ◌∙◌, ℕ, zero, suc, ◌+◌, ◌-◌, ◌<◌, ◌≤◌, ◌⊎◌, inl, inr, min, Bool, true, false, cond, ◌&&◌, ◌||◌, not, List, length, take, drop, get_or, nat_lt, arith, length-drop}
use Rattle.std.proofs.Math.Nat.{min-eq_left}
use Rattle.std.proofs.lemmas.List.{get_or-drop, drop-take, take_all}
use Rattle.std.proofs.lemmas.Bool.{cases_lt}
use Rattle.std.proofs.lemmas.Bool.Decides.{nat_tests}
use Rattle.lsp_positions.specs.Lines.{is_newline, is_return, is_ending, ends_line, line_starts, line_start, line_at, before_ending}
use Rattle.lsp_positions.specs.Columns.{begins_character, units, is_boundary, at_column}
use Rattle.lsp_positions.specs.Positions.{position_at, position_of, offset_of, line_text, IsWithinEnding}
use Rattle.lsp_positions.specs.declared.position.Encoding.{Encoding}
use Rattle.lsp_positions.proofs.Starts.{is_le, IsLine, line_is, starts_no_less, start_behind, start_of_line}
use Rattle.lsp_positions.proofs.Units.{boundary_here, column_back, column_past, line_short, line_reads, unended, ended, units_grow}

is_less : (m n : ℕ) → m < n → nat_lt m n ≡ true
is_less m n h = grind (arith, nat_tests)

newline_is : (b : ℕ) → is_newline b ≡ true → b ≡ 10
newline_is b h = grind (arith, nat_tests)

return_is : (b : ℕ) → is_return b ≡ true → b ≡ 13
return_is b h = grind (arith, nat_tests)

zero_right : (n : ℕ) → n + 0 ≡ n
zero_right n = omega arith

-- no line ends between the start of a place's line and the place
no_end : (text : List ℕ) (place line i : ℕ) → IsLine text place line → place ≤ length text → get_or (line_starts text) line 0 ≤ i → i < place →
    ends_line (get_or text i 0) (drop (suc i) text) ≡ false
no_end text place line i h within from before = go (ends_line (get_or text i 0) (drop (suc i) text)) refl
  where
    go : (t : Bool) → ends_line (get_or text i 0) (drop (suc i) text) ≡ t → t ≡ false
    go false e = refl
    go true e =
        let a = start_behind text i (omega (arith, within, before)) e in
        sub a.at a.within a.is (cases_lt line a.at)
      where
        sub : (k : ℕ) → k < length (line_starts text) → get_or (line_starts text) k 0 ≡ suc i → (line < k) ⊎ (k ≤ line) → true ≡ false
        sub k few is (inl later) = let over = h.next k later few in absurd (omega (arith, over, is, before))
        sub k few is (inr earlier) = let less = starts_no_less text k line earlier h.within in absurd (omega (arith, less, is, from))

-- what a byte is with which no line ends
record IsInside (byte next : ℕ) : Type 0 where
  newline : is_newline byte ≡ false
  return : is_return byte ≡ true → is_newline next ≡ true

inside : (byte next : ℕ) → (is_newline byte || (is_return byte && not (is_newline next))) ≡ false → IsInside byte next
inside byte next e = record { newline = one (is_newline byte) (is_return byte) (is_newline next) e; return = two (is_newline byte) (is_return byte) (is_newline next) e }
  where
    one : (p q r : Bool) → (p || (q && not r)) ≡ false → p ≡ false
    one false q r h = refl
    one true q r h = h

    two : (p q r : Bool) → (p || (q && not r)) ≡ false → q ≡ true → r ≡ true
    two p q true h k = refl
    two true q false h k = absurd (let wrong : true ≡ false = h in cc wrong)
    two false true false h k = absurd (let wrong : true ≡ false = h in cc wrong)
    two false false false h k = k

inside_at : (text : List ℕ) (place line i : ℕ) → IsLine text place line → place ≤ length text → get_or (line_starts text) line 0 ≤ i → i < place → IsInside (get_or text i 0) (get_or text (suc i) 0)
inside_at text place line i h within from before =
    let next : get_or (drop (suc i) text) 0 0 ≡ get_or text (suc i) 0 = get_or-drop (suc i) text 0 0 ∙ ap (λ k. get_or text k 0) (zero_right (suc i)) in
    inside (get_or text i 0) (get_or text (suc i) 0)
    (sym (ap (λ n. is_newline (get_or text i 0) || (is_return (get_or text i 0) && not (is_newline n))) next) ∙ no_end text place line i h within from before)

-- no ending stands there either, unless the place is within one
no_ending : (text : List ℕ) (place line i : ℕ) → IsLine text place line → place ≤ length text → get_or (line_starts text) line 0 ≤ i → i < place →
    (suc i ≡ place → is_return (get_or text i 0) ≡ true → is_newline (get_or text (suc i) 0) ≡ false) → is_ending (get_or text i 0) ≡ false
no_ending text place line i h within from before last = go (is_return (get_or text i 0)) refl (cases_lt (suc i) place)
  where
    go : (t : Bool) → is_return (get_or text i 0) ≡ t → (suc i < place) ⊎ (place ≤ suc i) → is_ending (get_or text i 0) ≡ false
    go false e side = (λ k. (inside_at text place line i h within from before).newline k || e k)
    go true e (inl more) =
        let there : is_newline (get_or text (suc i) 0) ≡ true = (inside_at text place line i h within from before).return e in
        let gone : is_newline (get_or text (suc i) 0) ≡ false = (inside_at text place line (suc i) h within (omega (arith, from)) more).newline in
        let both : true ≡ false = sym there ∙ gone in
        absurd (cc both)
    go true e (inr end) =
        let there : is_newline (get_or text (suc i) 0) ≡ true = (inside_at text place line i h within from before).return e in
        let gone : is_newline (get_or text (suc i) 0) ≡ false = last (omega (arith, before, end)) e in
        let both : true ≡ false = sym there ∙ gone in
        absurd (cc both)

-- the offset of a position in the line of a place
offset_in : (encoding : Encoding) (text : List ℕ) (place line column k : ℕ) → IsLine text place line → at_column encoding (line_text text line) column ≡ k →
    offset_of encoding text (record { line = line; character = column }) ≡ get_or (line_starts text) line 0 + k
offset_in encoding text place line column k h e =
    ap (λ t. cond t (line_start text line + at_column encoding (line_text text line) column) (length text)) (is_less line (length (line_starts text)) h.within)
    ∙ ap (λ n. get_or (line_starts text) line 0 + n) e

-- the part of a text from a place on and before another
pub part_is : (text : List ℕ) (start place : ℕ) → start ≤ place → drop start (take place text) ≡ take (place - start) (drop start text)
part_is text start place h =
    let sum : place ≡ start + (place - start) = omega (arith, h) in
    ap (λ n. drop start (take n text)) sum ∙ drop-take start (place - start) text

pub reads_from : (text : List ℕ) (start i : ℕ) → get_or (drop start text) i 0 ≡ get_or text (start + i) 0
reads_from text start i = get_or-drop start text i 0

boundary_in : (text : List ℕ) (place start : ℕ) → start ≤ place → place ≤ length text → is_boundary text place ≡ true → is_boundary (before_ending (drop start text)) (place - start) ≡ true
boundary_in text place start h within boundary = go (cases_lt (place - start) (length (before_ending (drop start text))))
  where
    go : (place - start < length (before_ending (drop start text))) ⊎ (length (before_ending (drop start text)) ≤ place - start) →
        is_boundary (before_ending (drop start text)) (place - start) ≡ true
    go (inl less) =
        let short = line_short (drop start text) in
        let rest = length-drop start text in
        let sum : start + (place - start) ≡ place = omega (arith, h) in
        let same : get_or (before_ending (drop start text)) (place - start) 0 ≡ get_or text place 0 =
        line_reads (drop start text) (place - start) less ∙ reads_from text start (place - start) ∙ ap (λ n. get_or text n 0) sum in
        boundary_here (before_ending (drop start text)) (place - start) less
        ∙ ap begins_character same
        ∙ sym (boundary_here text place (omega (arith, less, short, rest, h)))
        ∙ boundary
    go (inr end) =
        ap (λ t. t || begins_character (get_or (before_ending (drop start text)) (place - start) 0)) (is_le (length (before_ending (drop start text))) (place - start) end)

-- no ending stands between the start of a place's line and the place
free_before : (text : List ℕ) (place line : ℕ) → IsLine text place line → place ≤ length text → ¬ (IsWithinEnding text place) →
    (i : ℕ) → i < place - get_or (line_starts text) line 0 → is_ending (get_or (drop (get_or (line_starts text) line 0) text) i 0) ≡ false
free_before text place line h within outside i few =
    ap is_ending (reads_from text (get_or (line_starts text) line 0) i)
    ∙ no_ending text place line (get_or (line_starts text) line 0 + i) h within (omega arith) (omega (arith, few)) (λ e r. apart (get_or (line_starts text) line 0 + i) e r)
  where
    apart : (j : ℕ) → suc j ≡ place → is_return (get_or text j 0) ≡ true → is_newline (get_or text (suc j) 0) ≡ false
    apart j e r = go (is_newline (get_or text (suc j) 0)) refl
      where
        go : (t : Bool) → is_newline (get_or text (suc j) 0) ≡ t → t ≡ false
        go false n = refl
        go true n =
            let before : place - 1 ≡ j = omega (arith, e) in
            absurd (outside (omega (arith, e), ap (λ m. get_or text m 0) before ∙ return_is (get_or text j 0) r, ap (λ m. get_or text m 0) (sym e) ∙ newline_is (get_or text (suc j) 0) n))

back : (encoding : Encoding) (text : List ℕ) (place line : ℕ) → IsLine text place line → place ≤ length text → is_boundary text place ≡ true → ¬ (IsWithinEnding text place) →
    offset_of encoding text (record { line = line; character = units encoding (drop (get_or (line_starts text) line 0) (take place text)) }) ≡ place
back encoding text place line h within boundary outside =
    let start = get_or (line_starts text) line 0 in
    let k = place - start in
    let sum : start + k ≡ place = omega (arith, h.start) in
    let rest = length-drop start text in
    let front = unended (drop start text) k (omega (arith, rest, within)) (free_before text place line h within outside) in
    let column : units encoding (drop start (take place text)) ≡ units encoding (take k (before_ending (drop start text))) =
    ap (units encoding) (part_is text start place h.start ∙ sym front.same) in
    offset_in encoding text place line (units encoding (drop start (take place text))) k h
    (ap (at_column encoding (before_ending (drop start text))) column
    ∙ column_back encoding (before_ending (drop start text)) k front.within (boundary_in text place start h.start within boundary))
    ∙ sum

-- at a place within the text its position is the definition's
at_place : (encoding : Encoding) (text : List ℕ) (place : ℕ) → place ≤ length text → position_of encoding text place ≡ position_at encoding text place
at_place encoding text place within = ap (position_at encoding text) (min-eq_left within)

pub there_and_back : (encoding : Encoding) (text : List ℕ) (place : ℕ) → place ≤ length text → is_boundary text place ≡ true → ¬ (IsWithinEnding text place) →
    offset_of encoding text (position_of encoding text place) ≡ place
there_and_back encoding text place within boundary outside =
    ap (offset_of encoding text) (at_place encoding text place within)
    ∙ back encoding text place (line_at text place) (line_is text place) within boundary outside

-- within an ending

-- no line starts there
start_apart : (text : List ℕ) (place line : ℕ) → IsLine text place line → IsWithinEnding text place → get_or (line_starts text) line 0 < place
start_apart text place zero h ending = ending.0
start_apart text place (suc line) h ending = go (cases_lt (get_or (line_starts text) (suc line) 0) place)
  where
    go : (get_or (line_starts text) (suc line) 0 < place) ⊎ (place ≤ get_or (line_starts text) (suc line) 0) → get_or (line_starts text) (suc line) 0 < place
    go (inl less) = less
    go (inr more) =
        let s = start_of_line text line h.within in
        let same : get_or (line_starts text) (suc line) 0 ≡ place = omega (arith, more, h.start) in
        let first : get_or (line_starts text) (suc line) 0 - 1 - 0 ≡ place - 1 = omega (arith, same) in
        let rest : get_or (line_starts text) (suc line) 0 - 0 ≡ place = omega (arith, same) in
        let next : get_or (drop place text) 0 0 ≡ 10 = get_or-drop place text 0 0 ∙ ap (λ k. get_or text k 0) (zero_right place) ∙ ending.2 in
        let wrong : false ≡ true = (λ i. is_newline (sym ending.1 i) || (is_return (sym ending.1 i) && not (is_newline (sym next i))))
        ∙ (λ i. ends_line (get_or text (sym first i) 0) (drop (sym rest i) text)) ∙ s.ends in
        absurd (cc wrong)

no_ending_before : (text : List ℕ) (place : ℕ) → IsWithinEnding text place → ¬ (IsWithinEnding text (place - 1))
no_ending_before text place ending other = let wrong : 13 ≡ 10 = sym ending.1 ∙ other.2 in omega (arith, wrong)

from_ending : (encoding : Encoding) (text : List ℕ) (place line : ℕ) → IsLine text place line → place < length text → IsWithinEnding text place →
    offset_of encoding text (record { line = line; character = units encoding (drop (get_or (line_starts text) line 0) (take place text)) }) ≡ place - 1
from_ending encoding text place line h within ending =
    let start = get_or (line_starts text) line 0 in
    let apart = start_apart text place line h ending in
    let k = place - 1 - start in
    let rest = length-drop start text in
    let earlier : IsLine text (place - 1) line = record { within = h.within; start = omega (arith, apart); next = λ j more few. let later = h.next j more few in omega (arith, later) } in
    let free = free_before text (place - 1) line earlier (omega (arith, within)) (no_ending_before text place ending) in
    let front = unended (drop start text) k (omega (arith, rest, within, apart)) free in
    let sum : start + k ≡ place - 1 = omega (arith, apart) in
    let last : get_or (drop start text) k 0 ≡ 13 = reads_from text start k ∙ ap (λ n. get_or text n 0) sum ∙ ending.1 in
    let long : length (before_ending (drop start text)) ≡ k = ended (drop start text) k (omega (arith, rest, within, apart)) free (ap is_ending last) in
    let more : place - start ≡ suc k = omega (arith, apart) in
    let column : units encoding (drop start (take place text)) ≡ units encoding (take (suc k) (drop start text)) = ap (units encoding) (part_is text start place h.start ∙ ap (λ n. take n (drop start text)) more) in
    let line_is : units encoding (take k (drop start text)) ≡ units encoding (before_ending (drop start text)) =
    ap (units encoding) (sym front.same ∙ take_all k (before_ending (drop start text)) (omega (arith, long))) in
    let grow = units_grow encoding (drop start text) k (suc k) (omega arith) in
    offset_in encoding text place line (units encoding (drop start (take place text))) k h
    (column_past encoding (before_ending (drop start text)) (units encoding (drop start (take place text))) (omega (arith, grow, column, line_is)) ∙ long)
    ∙ sum

pub back_from_ending : (encoding : Encoding) (text : List ℕ) (place : ℕ) → place < length text → IsWithinEnding text place → offset_of encoding text (position_of encoding text place) ≡ place - 1
back_from_ending encoding text place within ending =
    ap (offset_of encoding text) (at_place encoding text place (omega (arith, within)))
    ∙ from_ending encoding text place (line_at text place) (line_is text place) within ending
