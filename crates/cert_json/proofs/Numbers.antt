-- The numbers of the analysis, as texts.
use Rattle.std.proofs.Common.{◌≡◌, ℕ, ◌^◌, ◌<◌, ◌≤◌, ℤ, pos, negsuc, Bool, true, false, cond, [], ◌∷◌, Option, Some, None, Result, Ok, Err, refl, sym, ap, subst, ◌∙◌, arith, decimal}
use Rattle.std.specs.Prelude.{nat_le, nat_lt, ◌<ℤ◌, ◌↔◌, suc, ◌&&◌, IsSome, IfSome, MatchResult}
use Rattle.std.specs.Str.{bytes_eq}
use Rattle.std.specs.Str.Parse.{digits_value, ParsesUnsigned}
use Rattle.std.specs.Fmt.{signed_decimal}
use Rattle.std.proofs.lemmas.Bool.{and_parts, ltb-true, leb-true, lt-ltb, le-leb, cond-true}
use Rattle.std.proofs.lemmas.Int.{ints}
use Rattle.std.proofs.lemmas.Fmt.{decimal_is_IsNumeral_wide, parse-decimal_wide}
use Rattle.cert_json.specs.Parts.{Entries}
use Rattle.annot_types.specs.Certificate.{Rise, RiseFrom}
use Rattle.cert_json.specs.Form.{Text}
use Rattle.cert_json.specs.Reading.{number_by, number_of, ascend_from, in_order}
use Rattle.cert_json.specs.Fits.{InRange, Each, FitsEntry}
use Rattle.cert_json.proofs.Options.{cond_inv, same_text, text_same}
use Rattle.cert_json.proofs.Inverses.{Numeral}

pub record Spelled (n : ℕ) (s : Text) (z : ℤ) : Type 0 where
  pub is : pos n ≡ z
  pub text : s ≡ decimal n
  pub positive : 1 ≤ n
  pub small : n < 2 ^ 127

by_sound : (n : ℕ) (s : Text) (z : ℤ) → number_by n s ≡ Some z → Spelled n s z
by_sound n s z e =
    let c = cond_inv (nat_le 1 n && (nat_lt n (2 ^ 127) && bytes_eq (decimal n) s)) (pos n) z e in
    let a = and_parts (nat_le 1 n) (nat_lt n (2 ^ 127) && bytes_eq (decimal n) s) c.0 in
    let b = and_parts (nat_lt n (2 ^ 127)) (bytes_eq (decimal n) s) a.1 in
    record { is = c.1; text = sym (same_text (decimal n) s b.1); positive = leb-true 1 n a.0; small = ltb-true n (2 ^ 127) b.0 }

by_complete : (n : ℕ) (s : Text) → s ≡ decimal n → 1 ≤ n → n < 2 ^ 127 → number_by n s ≡ Some (pos n)
by_complete n s e p q = rw (le-leb 1 n p, lt-ltb n (2 ^ 127) q, text_same (decimal n) s (sym e)) refl

wide : (n : ℕ) → n < 2 ^ 127 → n < 10 ^ 64
wide n h = omega arith

value_of_decimal : (n : ℕ) → n < 2 ^ 127 → digits_value 10 (decimal n) ≡ n
value_of_decimal n h = (decimal_is_IsNumeral_wide n (wide n h)).1

of_complete : (n : ℕ) (s : Text) → s ≡ decimal n → 1 ≤ n → n < 2 ^ 127 → number_of s ≡ Some (pos n)
of_complete n s e p q = ap (λ m. number_by m s) (ap (digits_value 10) e ∙ value_of_decimal n q) ∙ by_complete n s e p q

strict_sound : (s : Text) (z : ℤ) → number_of s ≡ Some z → (s ≡ signed_decimal z) × InRange z
strict_sound s z e = let h = by_sound (digits_value 10 s) s z e in subst (λ z. (s ≡ signed_decimal z) × InRange z) h.is (h.text, (h.positive, h.small))

strict_complete : (z : ℤ) → InRange z → number_of (signed_decimal z) ≡ Some z
strict_complete (pos n) h = of_complete n (decimal n) refl h.0 h.1
strict_complete (negsuc n) h = absurd h

pub strict : Numeral signed_decimal InRange number_of
strict = record { sound = strict_sound; complete = strict_complete }

pub loose : Numeral (λ (s : Text). s) (λ _. Unit {0}) Some
loose = record { sound = λ s n e. let h : s ≡ n = cc in (h, tt); complete = λ n h. refl }

-- what parsing gave decides what the text is
pub number_parsed : {E : Type 0} (s : Text) (r : Result ℕ E) → ParsesUnsigned 128 10 s r → MatchResult r (λ n. number_by n s ≡ number_of s) (λ _. None ≡ number_of s)
number_parsed {E} s (Ok n) h = by_cases (number_of s) (number_by n s) refl refl
  where
    by_cases : (o p : Option ℤ) → number_of s ≡ o → number_by n s ≡ p → number_by n s ≡ number_of s
    by_cases None None e f = f ∙ sym e
    by_cases None (Some z) e f = let b = by_sound n s z f in let c = of_complete n s b.text b.positive b.small in absurd (cc)
    by_cases (Some z) p e f =
        let b = by_sound (digits_value 10 s) s z e in
        let m = digits_value 10 s in
        let r = parse-decimal_wide {E = E} 128 m s (Ok n) (omega (arith, b.small)) (wide m b.small) b.text h in
        let same : n ≡ m = cc in
        ap (λ k. number_by k s) same
number_parsed {E} s (Err x) h = by_cases (number_of s) refl
  where
    by_cases : (o : Option ℤ) → number_of s ≡ o → None ≡ number_of s
    by_cases None e = sym e
    by_cases (Some z) e =
        let b = by_sound (digits_value 10 s) s z e in
        let m = digits_value 10 s in
        let r = parse-decimal_wide {E = E} 128 m s (Err x) (omega (arith, b.small)) (wide m b.small) b.text h in
        absurd (cc)

-- entries whose numbers are in range are an annotation where their positions ascend
positive : (z : ℤ) → InRange z → pos 0 <ℤ z
positive (pos n) h = grind (arith, ints, h.0)
positive (negsuc n) h = absurd h

rises : (n : ℕ) (es : Entries ℤ) → Each (FitsEntry InRange) es → ascend_from n es ≡ true → RiseFrom n es
rises n [] h e = tt
rises n (e ∷ es) h k =
    let a = and_parts (nat_le n e.0) (ascend_from (suc e.0) es) k in
    (leb-true n e.0 a.0, positive e.1 h.0.number, rises (suc e.0) es h.1 a.1)

pub ascends : (n : ℕ) (es : Entries ℤ) → RiseFrom n es → ascend_from n es ≡ true
ascends n [] r = refl
ascends n (e ∷ es) r = rw (le-leb n e.0 r.0) (ascends (suc e.0) es r.2)

never : {B : Type 0} → IsSome {T = Entries ℤ} None → B
never h = absurd (cc)

-- what making an annotation of such entries gives
pub annot_by_order : (o : Option (Entries ℤ)) (es : Entries ℤ) → Each (FitsEntry InRange) es → (IsSome o ↔ Rise es) → IfSome o (λ annot. annot ≡ es) → o ≡ in_order es
annot_by_order None es f h k = by (ascend_from 0 es) refl
  where
    by : (b : Bool) → ascend_from 0 es ≡ b → None ≡ cond b (Some es) None
    by true e = never (h.1 (rises 0 es f e))
    by false e = refl
annot_by_order (Some annot) es f h k = ap Some k ∙ sym (cond-true (ascend_from 0 es) (Some es) None (ascends 0 es (h.0 refl)))
