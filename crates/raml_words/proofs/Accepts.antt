-- `clap` takes a number of one to ten digits exactly where it is in the range.
use Rattle.std.proofs.Common.{◌≡◌, ◌≤◌, ◌<◌, ◌^◌, ℕ, true, false, [], ◌∷◌, length, refl, ap, ◌∙◌, arith}
use Rattle.std.specs.Prelude.{nat_le, nat_lt, ◌&&◌, ◌==◌}
use Rattle.std.specs.List.{list_all}
use Rattle.std.specs.Char.{digit_value}
use Rattle.std.specs.Int.{IsInRange}
use Rattle.std.specs.Str.{all_ascii_digits}
use Rattle.std.specs.Str.Parse.{digits_value, without_leading_plus}
use Rattle.std.proofs.lemmas.Bool.{and_parts, lt-ltb, leb-true, ne_eqb}
use Rattle.std.proofs.lemmas.Str.{digit_value_digit}
use Rattle.std.proofs.lemmas.Str.Parse.{tells_all_ascii_digits, digits_value_short}
use Rattle.clap.specs.ValueTests.{is_numeral, is_unsigned_in}
use Rattle.raml_words.specs.Words.{Text}
use Rattle.raml_words.specs.Sorting.{is_number}
use Rattle.raml_words.proofs.Numbers.{ascii}

digit_small : (c : ℕ) → IsInRange 48 57 c → nat_lt (digit_value c) 10 ≡ true
digit_small c h = lt-ltb (digit_value c) 10 (omega (arith, digit_value_digit c h, h))

all_small : (s : Text) → all_ascii_digits s ≡ true → list_all (λ d. nat_lt (digit_value d) 10) s ≡ true
all_small [] h = refl
all_small (c ∷ s) h = let p = tells_all_ascii_digits.parts c s h in rw (digit_small c p.0, all_small s p.1) refl

no_plus : (s : Text) → all_ascii_digits s ≡ true → without_leading_plus s ≡ s
no_plus [] h = refl
no_plus (c ∷ s) h =
    let p = tells_all_ascii_digits.parts c s h in
    let e : (c == 43) ≡ false = ne_eqb c 43 (λ q. absurd (omega (arith, q, p.0))) in
    rw e refl

numeral : (s : Text) → 1 ≤ length s → all_ascii_digits s ≡ true → is_numeral s ≡ true
numeral s p h = rw (lt-ltb 0 (length s) (omega arith), all_small s h) refl

pub accepts_number : (least most : ℕ) (s : Text) → is_number s ≡ true → is_unsigned_in least most s ≡ (nat_le least (digits_value 10 s) && nat_le (digits_value 10 s) most)
accepts_number least most s h =
    let p = and_parts (nat_le 1 (length s) && nat_le (length s) 10) (all_ascii_digits s) h in
    let q = and_parts (nat_le 1 (length s)) (nat_le (length s) 10) p.0 in
    let small = digits_value_short ascii s 10 p.1 (leb-true (length s) 10 q.1) in
    let fits : digits_value 10 s < 2 ^ 64 = omega (arith, small) in
    ap (λ t. is_numeral t && (nat_lt (digits_value 10 t) (2 ^ 64) && (nat_le least (digits_value 10 t) && nat_le (digits_value 10 t) most))) (no_plus s p.1)
    ∙ ap (λ b. b && (nat_lt (digits_value 10 s) (2 ^ 64) && (nat_le least (digits_value 10 s) && nat_le (digits_value 10 s) most))) (numeral s (leb-true 1 (length s) q.0) p.1)
    ∙ ap (λ b. b && (nat_le least (digits_value 10 s) && nat_le (digits_value 10 s) most)) (lt-ltb (digits_value 10 s) (2 ^ 64) fits)
