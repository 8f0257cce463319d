-- The numbers that words spell.
use Rattle.std.proofs.Common.{◌≡◌, ◌≤◌, ℕ, true, length, Result, Ok, arith}
use Rattle.std.proofs.lemmas.Bool.{and_parts, leb-true}
use Rattle.std.proofs.lemmas.Bool.Decides.{nat_tests}
use Rattle.std.proofs.lemmas.Str.Parse.{IsNumeralModel, numerals_by_value, tells_digits, tells_all_ascii_digits, digits_value_short, parse_gives}
use Rattle.std.specs.Prelude.{nat_eq, nat_le, not}
use Rattle.std.specs.Str.{all_ascii_digits}
use Rattle.std.specs.Str.Parse.{AllDigits, IsNumeral, digits_value, ParsesUnsigned}
use Rattle.raml_syntax.specs.Tree.{Text}
use Rattle.explain_at.specs.Words.{are_digits, is_short}

ascii : IsNumeralModel (λ ds. all_ascii_digits ds ≡ true) (digits_value 10)
ascii = numerals_by_value _ tells_all_ascii_digits

plain : IsNumeralModel (AllDigits 10) (digits_value 10)
plain = numerals_by_value _ tells_digits

some_digits : (n : ℕ) → not (nat_eq n 0) ≡ true → 1 ≤ n
some_digits n h = grind (arith, nat_tests, h)

numeral_of : (s : Text) → is_short s ≡ true → IsNumeral 10 s × (length s ≤ 10)
numeral_of s e =
    let h = and_parts (are_digits s) (nat_le (length s) 10) e in
    let k = and_parts (not (nat_eq (length s) 0)) (all_ascii_digits s) h.0 in
    ((some_digits (length s) k.0, ascii.to s k.1), leb-true (length s) 10 h.1)

-- so few digits are read
pub number_read : {E : Type 0} (s : Text) (r : Result ℕ E) → is_short s ≡ true → ParsesUnsigned 64 10 s r → r ≡ Ok (digits_value 10 s)
number_read s r e parsed =
    let h = numeral_of s e in
    let small = digits_value_short plain s 10 h.0.1 h.1 in
    parse_gives plain 64 s r parsed h.0.1 h.0.0 (omega (arith, small))
