-- The numbers that words spell.
use Rattle.std.proofs.Common.{◌≡◌, ◌≤◌, ℕ, Bool, true, false, cond, length, Result, Ok, Some, None, refl, sym, ap, subst, ◌∙◌, arith}
use Rattle.std.proofs.lemmas.Bool.{and_parts, leb-true, le-leb}
use Rattle.std.proofs.lemmas.Str.Parse.{IsNumeralModel, numerals_by_value, tells_digits, tells_all_ascii_digits, digits_value_short, parse_gives}
use Rattle.std.specs.Prelude.{nat_le, ◌&&◌}
use Rattle.std.specs.Str.{all_ascii_digits}
use Rattle.std.specs.Str.Parse.{AllDigits, IsNumeral, digits_value, ParsesUnsigned}
use Rattle.raml_words.specs.Words.{Text, IsNumber}
use Rattle.raml_words.specs.Sorting.{is_number, ranged, number_in}

pub ascii : IsNumeralModel (λ ds. all_ascii_digits ds ≡ true) (digits_value 10)
ascii = numerals_by_value _ tells_all_ascii_digits

plain : IsNumeralModel (AllDigits 10) (digits_value 10)
plain = numerals_by_value _ tells_digits

-- the test of a numeral of few digits
pub numeral_of : (s : Text) → is_number s ≡ true → IsNumeral 10 s × (length s ≤ 10)
numeral_of s e =
    let h = and_parts (nat_le 1 (length s) && nat_le (length s) 10) (all_ascii_digits s) e in
    let k = and_parts (nat_le 1 (length s)) (nat_le (length s) 10) h.0 in
    ((leb-true 1 (length s) k.0, ascii.to s h.1), leb-true (length s) 10 k.1)

of_numeral : (s : Text) → IsNumeral 10 s → length s ≤ 10 → is_number s ≡ true
of_numeral s h few = rw (le-leb 1 (length s) h.0, le-leb (length s) 10 few) (ascii.from s h.1)

-- so few digits are read
pub number_read : {E : Type 0} (s : Text) (r : Result ℕ E) → is_number s ≡ true → ParsesUnsigned 64 10 s r → r ≡ Ok (digits_value 10 s)
number_read s r e parsed =
    let h = numeral_of s e in
    let small = digits_value_short plain s 10 h.0.1 h.1 in
    parse_gives plain 64 s r parsed h.0.1 h.0.0 (omega (arith, small))

-- a number in its range
pub number_is : (least most : ℕ) (s : Text) (n : ℕ) → number_in least most s ≡ Some n → IsNumber least most s n
number_is least most s n e = by (is_number s) (numeral_of s) (nat_le least v && nat_le v most) (and_parts (nat_le least v) (nat_le v most)) e
  where
    v : ℕ
    v = digits_value 10 s

    by : (b : Bool) → (b ≡ true → IsNumeral 10 s × (length s ≤ 10)) → (t : Bool) → (t ≡ true → (nat_le least v ≡ true) × (nat_le v most ≡ true)) → cond b (cond t (Some v) None) None ≡ Some n → IsNumber least most s n
    by true numeral true range e =
        let is : v ≡ n = cc in
        let h = numeral refl in
        let k = range refl in
        subst (IsNumber least most s) is (record { numeral = h.0; few = h.1; is = refl; low = leb-true least v k.0; high = leb-true v most k.1 })
    by true numeral false range e = absurd (cc)
    by false numeral t range e = absurd (cc)

pub number_there : (least most : ℕ) (s : Text) (n : ℕ) → IsNumber least most s n → number_in least most s ≡ Some n
number_there least most s n h =
    let within : ranged least most n ≡ Some n = rw (le-leb least n h.low, le-leb n most h.high) refl in
    rw (of_numeral s h.numeral h.few) (ap (ranged least most) (sym h.is) ∙ within)
