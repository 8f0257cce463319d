-- The numbers that words spell.
use Rattle.std.proofs.Common.{◌≡◌, ◌≤◌, ◌<◌, ℕ, Bool, true, false, cond, length, Result, Ok, Err, Some, None, refl, arith}
use Rattle.std.proofs.lemmas.Bool.{and_parts, leb-true}
use Rattle.std.proofs.lemmas.Bool.Decides.{nat_tests}
use Rattle.std.proofs.lemmas.Str.Parse.{IsNumeralModel, numerals_by_value, tells_digits, tells_all_ascii_digits, parse_gives}
use Rattle.std.specs.Prelude.{◌^◌, ◌&&◌, nat_eq, nat_le, not}
use Rattle.std.specs.Str.{all_ascii_digits}
use Rattle.std.specs.Str.Parse.{AllDigits, IsNumeral, digits_value, ParsesUnsigned}
use Rattle.clap.specs.Walk.{Text}
use Rattle.explain_words.specs.Spelled.{are_digits, is_numeral, number_in}

ascii : IsNumeralModel (λ ds. all_ascii_digits ds ≡ true) (digits_value 10)
ascii = numerals_by_value _ tells_all_ascii_digits

plain : IsNumeralModel (AllDigits 10) (digits_value 10)
plain = numerals_by_value _ tells_digits

some_digits : (n : ℕ) → not (nat_eq n 0) ≡ true → 1 ≤ n
some_digits n h = grind (arith, nat_tests, h)

numeral_of : (digits : ℕ) (s : Text) → is_numeral digits s ≡ true → IsNumeral 10 s
numeral_of digits s e =
    let h = and_parts (are_digits s) (nat_le (length s) digits) e in
    let k = and_parts (not (nat_eq (length s) 0)) (all_ascii_digits s) h.0 in
    (some_digits (length s) k.0, ascii.to s k.1)

-- a word that is not read spells no number of the range
pub unread : {E : Type 0} (digits least most : ℕ) (s : Text) (r : Result ℕ E) (e : E) → most < 2 ^ 128 → ParsesUnsigned 128 10 s r → r ≡ Err e → number_in digits least most s ≡ None
unread digits least most s r e small parsed is = by (is_numeral digits s) refl (nat_le least v) (nat_le v most) refl
  where
    v : ℕ
    v = digits_value 10 s

    read : is_numeral digits s ≡ true → v ≤ most → r ≡ Ok v
    read f low = let h = numeral_of digits s f in parse_gives plain 128 s r parsed h.1 h.0 (omega (arith, small, low))

    by : (b : Bool) → is_numeral digits s ≡ b → (l t : Bool) → nat_le v most ≡ t → cond b (cond (l && t) (Some v) None) None ≡ None
    by false f l t g = refl
    by true f false t g = refl
    by true f true false g = refl
    by true f true true g = let there = read f (leb-true v most g) in absurd (cc (there, is))
