-- What is written is read.
use Rattle.std.proofs.Common.{◌≡◌, refl, ap, sym, ◌∙◌, subst, ℕ, zero, suc, ◌+◌, ◌*◌, ◌-◌, ◌^◌, ◌<◌, ◌≤◌, true, false, cond, ◌&&◌, not, List, [], ◌∷◌, ◌++◌, length, take, drop, reverse, None, Some, Ok, Err, nat_eq, nat_le, arith, length-append, append_assoc, append-nil}
use Rattle.std.specs.Prelude.{codes, decimal}
use Rattle.std.specs.Char.{is_ascii_digit, digit_value}
use Rattle.std.specs.List.{list_all}
use Rattle.std.specs.Str.Parse.{AllDigits, digits_value_after}
use Rattle.std.proofs.lemmas.Bool.Decides.{nat_tests}
use Rattle.std.proofs.lemmas.Fmt.{decimal_is_IsNumeral, length-decimal-le}
use Rattle.std.proofs.lemmas.List.{drop-drop, drop_at, take_at, take_all, reverse-append, reverse-reverse}
use Rattle.lsp_frames.specs.Marks.{blank_line, line_end, first_place, begins, NoneBefore, lines, is_blank, after_blanks, before_blanks, trimmed}
use Rattle.lsp_frames.specs.Fields.{number_after, number_in, is_numeral, length_in, length_after, told_by, with_told, and_then, most_content}
use Rattle.lsp_frames.specs.Frames.{Told, head_of, head_at, head_told, most_header, More, Whole, front, front_by, frame}
use Rattle.lsp_frames.specs.declared.field.FrameFault.TheVariants.{ContentTooLong, NotANumber}
use Rattle.std.specs.Str.{bytes_eq}
use Rattle.lsp_frames.proofs.Places.{found_first, found_none, only_line}
use Rattle.lsp_frames.proofs.Marks.{none_in_front, take_of_both}
use Rattle.lsp_frames.proofs.Streams.{is_le}

-- each byte passes a test that a return or a blank fails

abbrev NoReturn : List ℕ → Type 0
NoReturn [] = Unit {0}
NoReturn (x ∷ xs) = (nat_eq 13 x ≡ false) × NoReturn xs

abbrev NoBlank : List ℕ → Type 0
NoBlank [] = Unit {0}
NoBlank (x ∷ xs) = (is_blank x ≡ false) × NoBlank xs

no_return_both : (xs ys : List ℕ) → NoReturn xs → NoReturn ys → NoReturn (xs ++ ys)
no_return_both [] ys h k = k
no_return_both (x ∷ xs) ys h k = (h.0, no_return_both xs ys h.1 k)

no_blank_both : (xs ys : List ℕ) → NoBlank xs → NoBlank ys → NoBlank (xs ++ ys)
no_blank_both [] ys h k = k
no_blank_both (x ∷ xs) ys h k = (h.0, no_blank_both xs ys h.1 k)

no_blank_reverse : (xs : List ℕ) → NoBlank xs → NoBlank (reverse xs)
no_blank_reverse [] h = tt
no_blank_reverse (x ∷ xs) h = subst NoBlank (sym (reverse-append (x ∷ []) xs)) (no_blank_both (reverse xs) (x ∷ []) (no_blank_reverse xs h.1) (h.0, tt))

unmarked : (mark xs ys : List ℕ) → NoReturn xs → NoneBefore (13 ∷ mark) (length xs) (xs ++ ys)
unmarked mark [] ys h k few = absurd (omega (arith, few))
unmarked mark (x ∷ xs) ys h zero few = ap (λ t. t && bytes_eq mark (take (length mark) (xs ++ ys))) h.0
unmarked mark (x ∷ xs) ys h (suc k) few = unmarked mark xs ys h.1 k (omega (arith, few))

unblanked : (xs : List ℕ) → NoBlank xs → after_blanks xs ≡ xs
unblanked [] h = refl
unblanked (x ∷ xs) h = ap (λ t. cond t (after_blanks xs) (x ∷ xs)) h.0

untrimmed : (xs : List ℕ) → NoBlank xs → trimmed xs ≡ xs
untrimmed xs h = ap before_blanks (unblanked xs h) ∙ ap reverse (unblanked (reverse xs) (no_blank_reverse xs h)) ∙ reverse-reverse xs

-- digits

digit_bounds : (c : ℕ) → digit_value c < 10 → (48 ≤ c) × (c ≤ 57) × (digit_value c ≡ c - 48)
digit_bounds c h = grind (arith, nat_tests)

is_digit : (c : ℕ) → 48 ≤ c → c ≤ 57 → is_ascii_digit c ≡ true
is_digit c low high = grind (arith, nat_tests)

is_no_return : (c : ℕ) → 48 ≤ c → nat_eq 13 c ≡ false
is_no_return c low = grind (arith, nat_tests)

is_no_blank : (c : ℕ) → 48 ≤ c → is_blank c ≡ false
is_no_blank c low = grind (arith, nat_tests)

digits_have_no_return : (ds : List ℕ) → AllDigits 10 ds → NoReturn ds
digits_have_no_return [] h = tt
digits_have_no_return (d ∷ ds) h = (is_no_return d (digit_bounds d h.0).0, digits_have_no_return ds h.1)

digits_have_no_blank : (ds : List ℕ) → AllDigits 10 ds → NoBlank ds
digits_have_no_blank [] h = tt
digits_have_no_blank (d ∷ ds) h = (is_no_blank d (digit_bounds d h.0).0, digits_have_no_blank ds h.1)

all_digits : (ds : List ℕ) → AllDigits 10 ds → list_all is_ascii_digit ds ≡ true
all_digits [] h = refl
all_digits (d ∷ ds) h = ap (λ t. t && list_all is_ascii_digit ds) (is_digit d (digit_bounds d h.0).0 (digit_bounds d h.0).1) ∙ all_digits ds h.1

same_number : (n : ℕ) (ds : List ℕ) → AllDigits 10 ds → number_after n ds ≡ digits_value_after 10 n ds
same_number n [] h = refl
same_number n (d ∷ ds) h = ap (λ m. number_after (n * 10 + m) ds) (sym (digit_bounds d h.0).2) ∙ same_number (n * 10 + digit_value d) ds h.1

not_empty : (n : ℕ) → nat_eq (suc n) 0 ≡ false
not_empty n = grind (arith, nat_tests)

numeral_read : (ds : List ℕ) → AllDigits 10 ds → 0 < length ds → number_after 0 ds ≤ most_content → number_in ds ≡ Ok (Some (number_after 0 ds))
numeral_read [] h some few = absurd (omega (arith, some))
numeral_read (d ∷ ds) h some few =
    let numeral : is_numeral (d ∷ ds) ≡ true = (λ i. not (not_empty (length ds) i) && all_digits (d ∷ ds) h i) in
    let short : nat_le (number_after 0 (d ∷ ds)) most_content ≡ true = is_le (number_after 0 (d ∷ ds)) most_content few in
    (λ i. cond (numeral i) (cond (short i) (Ok (Some (number_after 0 (d ∷ ds)))) (Err ContentTooLong)) (Err NotANumber))

-- the header part

name : List ℕ
name = codes "Content-Length: "

name_has_no_return : NoReturn name
unfolding name
name_has_no_return = (refl, (refl, (refl, (refl, (refl, (refl, (refl, (refl, (refl, (refl, (refl, (refl, (refl, (refl, (refl, (refl, tt))))))))))))))))

field_read : (ds : List ℕ) → AllDigits 10 ds → told_by (name ++ ds) ≡ number_in ds
unfolding name
field_read ds h = let first : told_by (name ++ ds) ≡ number_in (trimmed ds) = refl in first ∙ ap number_in (untrimmed ds (digits_have_no_blank ds h))

one_line : (xs : List ℕ) → NoReturn xs → lines xs ≡ xs ∷ []
one_line xs h =
    let nowhere : NoneBefore line_end (length xs) xs = subst (NoneBefore line_end (length xs)) (append-nil xs) (unmarked (10 ∷ []) xs [] h) in
    only_line xs (sym (found_none line_end xs (length xs) nowhere (omega arith)))

header_read : (ds : List ℕ) → AllDigits 10 ds → 0 < length ds → number_after 0 ds ≤ most_content → length_in (name ++ ds) ≡ Ok (number_after 0 ds)
header_read ds h some few =
    let told : told_by (name ++ ds) ≡ Ok (Some (number_after 0 ds)) = field_read ds h ∙ numeral_read ds h some few in
    ap (length_after None) (one_line (name ++ ds) (no_return_both name ds name_has_no_return (digits_have_no_return ds h)))
    ∙ ap (λ t. and_then (with_told None t) (λ now. length_after now [])) told

-- the front: a header part, its first blank line, and the content
pub front_read : (header content rest : List ℕ) (n : ℕ) → NoneBefore blank_line (length header) (header ++ (blank_line ++ (content ++ rest))) → length header + 4 ≤ most_header →
    length_in header ≡ Ok n → length content ≡ n → front (header ++ (blank_line ++ (content ++ rest))) ≡ Whole content rest
front_read header content rest n first short told size =
    let bytes = header ++ (blank_line ++ (content ++ rest)) in
    let place = length header in
    let more = take (most_header - length (header ++ blank_line)) (content ++ rest) in
    let four : length (header ++ blank_line) ≡ place + 4 = length-append header blank_line in
    let grouped : bytes ≡ (header ++ blank_line) ++ (content ++ rest) = sym (append_assoc header blank_line (content ++ rest)) in
    let window : take most_header bytes ≡ header ++ (blank_line ++ more) =
    ap (take most_header) grouped
    ∙ take_of_both most_header (header ++ blank_line) (content ++ rest)
    ∙ ap (λ (l : List ℕ). l ++ more) (take_all most_header (header ++ blank_line) (omega (arith, four, short)))
    ∙ append_assoc header blank_line more in
    let here : begins blank_line (drop place (take most_header bytes)) ≡ true =
    ap (λ (l : List ℕ). begins blank_line (drop place l)) window ∙ ap (begins blank_line) (drop_at header (blank_line ++ more) place refl) in
    let sum = length-append header (blank_line ++ more) in
    let long = ap length window in
    let found : first_place blank_line (take most_header bytes) ≡ Some place =
    found_first blank_line (take most_header bytes) place (none_in_front blank_line bytes most_header place (omega arith) first) here (omega (arith, sum, long)) in
    let cut : take place bytes ≡ header = take_at header (blank_line ++ (content ++ rest)) place refl in
    let head : head_of bytes ≡ Told (place + 4) n = ap (head_at bytes) found ∙ ap (λ (l : List ℕ). head_told (place + 4) (length_in l)) cut ∙ ap (head_told (place + 4)) told in
    let whole = length-append header (blank_line ++ (content ++ rest)) in
    let tail = length-append content rest in
    let fits : nat_le (place + 4 + n) (length bytes) ≡ true = is_le (place + 4 + n) (length bytes) (omega (arith, whole, tail, size)) in
    let behind : drop (place + 4) bytes ≡ content ++ rest = ap (drop (place + 4)) grouped ∙ drop_at (header ++ blank_line) (content ++ rest) (place + 4) four in
    let inside : take n (drop (place + 4) bytes) ≡ content = ap (take n) behind ∙ take_at content rest n size in
    let last : drop (place + 4 + n) bytes ≡ rest = sym (drop-drop n (place + 4) bytes) ∙ ap (drop n) behind ∙ drop_at content rest n size in
    ap (front_by bytes) head ∙ (λ i. cond (fits i) (Whole (inside i) (last i)) More)

pub written_is_read : (content rest : List ℕ) → length content ≤ most_content → front (frame content ++ rest) ≡ Whole content rest
unfolding name
written_is_read content rest few =
    let n = length content in
    let ds = decimal n in
    let small : n < 2 ^ 64 = omega (arith, few) in
    let numeral = decimal_is_IsNumeral n small in
    let short = length-decimal-le 20 n (omega arith) (omega (arith, few)) small in
    let value : number_after 0 ds ≡ n = same_number 0 ds numeral.0.1 ∙ numeral.1 in
    let sum = length-append name ds in
    let header = name ++ ds in
    let plain : NoReturn header = no_return_both name ds name_has_no_return (digits_have_no_return ds numeral.0.1) in
    let regrouped : frame content ++ rest ≡ header ++ (blank_line ++ (content ++ rest)) = ap (λ (l : List ℕ). name ++ l) (append_assoc ds (blank_line ++ content) rest) in
    ap front regrouped
    ∙ front_read header content rest n (unmarked (10 ∷ 13 ∷ 10 ∷ []) header (blank_line ++ (content ++ rest)) plain) (omega (arith, sum, short))
    (header_read ds numeral.0.1 numeral.0.0 (omega (arith, value, few)) ∙ ap Ok value) refl
