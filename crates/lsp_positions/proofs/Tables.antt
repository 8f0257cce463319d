-- What a table of lines answers.
use Rattle.std.proofs.Common.{◌≡◌, refl, ap, sym, ◌∙◌, subst, ℕ, zero, suc, ◌+◌, ◌-◌, ◌<◌, ◌≤◌, ◌⊎◌, inl, inr, min, Bool, true, false, cond, ◌&&◌, ◌||◌, not, List, [], ◌∷◌, length, take, drop, get_or, nat_eq, nat_le, arith, length-drop}
use Rattle.std.specs.Prelude.{IsUtf8, IsCharBoundary}
use Rattle.std.proofs.lemmas.Bool.{cases_lt}
use Rattle.std.proofs.lemmas.Bool.Decides.{nat_tests}
use Rattle.std.proofs.lemmas.Str.{IsCharBoundary-start, IsCharBoundary-after_ascii, IsCharBoundary-before_ascii, IsCharBoundary-end}
use Rattle.lsp_positions.specs.Lines.{is_ending, line_starts, line_at, before_ending}
use Rattle.lsp_positions.specs.Columns.{begins_character, units, is_boundary, last_below, is_within, at_column}
use Rattle.lsp_positions.specs.Positions.{position_at, position_of}
use Rattle.lsp_positions.specs.declared.position.Encoding.{Encoding}
use Rattle.lsp_positions.proofs.Starts.{is_le, start_of_line, start_within, ending_is_ascii}
use Rattle.lsp_positions.proofs.Units.{boundary_here, last_passes, line_short, line_reads}
use Rattle.lsp_positions.proofs.Back.{part_is, reads_from}

pub position_is : (encoding : Encoding) (text starts : List ℕ) (line place offset column : ℕ) → starts ≡ line_starts text → place ≡ min offset (length text) → line ≡ line_at text place →
    get_or starts line 0 ≤ place → column ≡ units encoding (take (place - get_or starts line 0) (drop (get_or starts line 0) text)) →
    record { line = line; character = column } ≡ position_of encoding text offset
position_is encoding text starts line place offset column table at here before counted =
    let start : get_or starts line 0 ≡ get_or (line_starts text) (line_at text place) 0 = (λ i. get_or (table i) (here i) 0) in
    let part : units encoding (take (place - get_or starts line 0) (drop (get_or starts line 0) text)) ≡ units encoding (drop (get_or (line_starts text) (line_at text place) 0) (take place text)) =
    ap (units encoding) (sym (part_is text (get_or starts line 0) place before) ∙ ap (λ n. drop n (take place text)) start) in
    let same : record { line = line; character = column } ≡ position_at encoding text place = (λ i. record { line = here i; character = (counted ∙ part) i }) in
    same ∙ ap (position_at encoding text) at

start_boundary : (text : List ℕ) (line : ℕ) → IsUtf8 text → line < length (line_starts text) → IsCharBoundary text (get_or (line_starts text) line 0)
start_boundary text zero utf8 few = IsCharBoundary-start text utf8
start_boundary text (suc line) utf8 few =
    let s = start_of_line text line few in
    let start = get_or (line_starts text) (suc line) 0 in
    let same : start - 1 - 0 ≡ start - 1 = omega arith in
    let sum : start - 1 + 1 ≡ start = omega (arith, s.behind) in
    let ascii : get_or text (start - 1) 0 < 128 = subst (λ k. get_or text k 0 < 128) same (ending_is_ascii (get_or text (start - 1 - 0) 0) (drop (start - 0) text) s.ends) in
    subst (IsCharBoundary text) sum (IsCharBoundary-after_ascii text (start - 1) utf8 (omega (arith, s.behind, s.within)) ascii)

ending_ascii : (b : ℕ) → is_ending b ≡ true → b < 128
ending_ascii b e = go (cases_lt b 128)
  where
    go : (b < 128) ⊎ (128 ≤ b) → b < 128
    go (inl small) = small
    go (inr large) =
        let one : nat_eq b 10 ≡ false = grind (arith, nat_tests) in
        let two : nat_eq b 13 ≡ false = grind (arith, nat_tests) in
        let wrong : false ≡ true = (λ i. sym one i || sym two i) ∙ e in
        absurd (cc wrong)

-- what stands where a line stops
line_stops : (xs : List ℕ) → (length (before_ending xs) ≡ length xs) ⊎ ((length (before_ending xs) < length xs) × (is_ending (get_or xs (length (before_ending xs)) 0) ≡ true))
line_stops [] = inl refl
line_stops (x ∷ xs) = go (is_ending x) refl (line_stops xs)
  where
    go : (t : Bool) → is_ending x ≡ t → (length (before_ending xs) ≡ length xs) ⊎ ((length (before_ending xs) < length xs) × (is_ending (get_or xs (length (before_ending xs)) 0) ≡ true)) →
        (length (cond t [] (x ∷ before_ending xs)) ≡ length (x ∷ xs))
        ⊎ ((length (cond t [] (x ∷ before_ending xs)) < length (x ∷ xs)) × (is_ending (get_or (x ∷ xs) (length (cond t [] (x ∷ before_ending xs))) 0) ≡ true))
    go true e h = inr (omega arith, e)
    go false e (inl all) = inl (ap suc all)
    go false e (inr stop) = inr (omega (arith, stop.0), stop.1)

last_less : (test : ℕ → Bool) (n : ℕ) → last_below test (suc n) ≤ n
last_less test zero = go (test 0)
  where
    go : (t : Bool) → cond t 0 0 ≤ 0
    go true = omega arith
    go false = omega arith
last_less test (suc n) = go (test (suc n)) (last_less test n)
  where
    go : (t : Bool) → last_below test (suc n) ≤ n → cond t (suc n) (last_below test (suc n)) ≤ suc n
    go true h = omega arith
    go false h = omega (arith, h)

and_left : (p q : Bool) → (p && q) ≡ true → p ≡ true
and_left true q h = refl
and_left false q h = h

lead_of : (b : ℕ) → begins_character b ≡ true → 128 ≤ b → 192 ≤ b
lead_of b e h = go (cases_lt b 192)
  where
    go : (b < 192) ⊎ (192 ≤ b) → 192 ≤ b
    go (inr large) = large
    go (inl small) =
        let wrong : false ≡ true = (λ i. not (sym (is_le 0x80 b h) i && sym (is_le b 0xBF (omega (arith, small))) i)) ∙ e in
        absurd (cc wrong)

-- a place of a line at which a character begins or the line ends is one of the text
boundary_of_line : (text : List ℕ) (start at : ℕ) → IsUtf8 text → start ≤ length text → at ≤ length (before_ending (drop start text)) → is_boundary (before_ending (drop start text)) at ≡ true → IsCharBoundary text (start + at)
boundary_of_line text start at utf8 within few boundary = go (cases_lt at (length (before_ending (drop start text))))
  where
    stop : (length (before_ending (drop start text)) ≡ length (drop start text))
        ⊎ ((length (before_ending (drop start text)) < length (drop start text)) × (is_ending (get_or (drop start text) (length (before_ending (drop start text))) 0) ≡ true)) →
        at ≡ length (before_ending (drop start text)) → IsCharBoundary text (start + at)
    stop (inl all) end =
        let left = length-drop start text in
        let sum : length text ≡ start + at = omega (arith, all, end, left, within) in
        subst (IsCharBoundary text) sum (IsCharBoundary-end text)
    stop (inr one) end =
        let left = length-drop start text in
        let same : get_or (drop start text) (length (before_ending (drop start text))) 0 ≡ get_or text (start + at) 0 =
        ap (λ k. get_or (drop start text) k 0) (sym end) ∙ reads_from text start at in
        IsCharBoundary-before_ascii text (start + at) (omega (arith, one.0, end, left)) (ending_ascii (get_or text (start + at) 0) (ap is_ending (sym same) ∙ one.1))

    go : (at < length (before_ending (drop start text))) ⊎ (length (before_ending (drop start text)) ≤ at) → IsCharBoundary text (start + at)
    go (inl less) =
        let cut = line_short (drop start text) in
        let left = length-drop start text in
        let same : get_or (before_ending (drop start text)) at 0 ≡ get_or text (start + at) 0 = line_reads (drop start text) at less ∙ reads_from text start at in
        let begins : begins_character (get_or text (start + at) 0) ≡ true = ap begins_character (sym same) ∙ sym (boundary_here (before_ending (drop start text)) at less) ∙ boundary in
        (omega (arith, less, cut, left), λ h. lead_of (get_or text (start + at) 0) begins)
    go (inr end) = stop (line_stops (drop start text)) (omega (arith, few, end))

-- the last place that passes, in the line from a start on
place_boundary : (encoding : Encoding) (text : List ℕ) (start column at : ℕ) → IsUtf8 text → start ≤ length text → IsCharBoundary text start →
    at ≡ at_column encoding (before_ending (drop start text)) column → IsCharBoundary text (start + at)
place_boundary encoding text start column at utf8 within first found =
    let line = before_ending (drop start text) in
    let test = is_within encoding line column in
    let one : suc (length line) ≡ length line + 1 = omega arith in
    let less = last_less test (length line) in
    let same : at ≡ last_below test (suc (length line)) = found ∙ ap (last_below test) (sym one) in
    go (last_below test (suc (length line))) same (last_passes test (suc (length line))) (omega (arith, same, less))
  where
    go : (last : ℕ) → at ≡ last → (last ≡ 0) ⊎ (is_within encoding (before_ending (drop start text)) column last ≡ true) → at ≤ length (before_ending (drop start text)) → IsCharBoundary text (start + at)
    go last same (inl none) few = let sum : start ≡ start + at = omega (arith, none, same) in subst (IsCharBoundary text) sum first
    go last same (inr passes) few =
        boundary_of_line text start at utf8 within few
        (and_left (is_boundary (before_ending (drop start text)) at) (nat_le (units encoding (take at (before_ending (drop start text)))) column)
        (ap (is_within encoding (before_ending (drop start text)) column) same ∙ passes))

pub offset_boundary : (encoding : Encoding) (text starts : List ℕ) (line column at : ℕ) → IsUtf8 text → starts ≡ line_starts text → line < length starts →
    at ≡ at_column encoding (before_ending (drop (get_or starts line 0) text)) column → IsCharBoundary text (get_or starts line 0 + at)
offset_boundary encoding text starts line column at utf8 table few found =
    subst (λ xs. line < length xs → at ≡ at_column encoding (before_ending (drop (get_or xs line 0) text)) column → IsCharBoundary text (get_or xs line 0 + at)) (sym table)
    (λ few found. place_boundary encoding text (get_or (line_starts text) line 0) column at utf8 (start_within text line few) (start_boundary text line utf8 few) found) few found
