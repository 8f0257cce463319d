-- Quotients as machine words.
use Rattle.std.proofs.Common.{◌≡◌, ℕ, zero, suc, ◌-◌, ◌/◌, ◌%◌, ◌<◌, ◌≤◌, ◌^◌, refl, sym, ap, ◌∙◌, arith}
use Rattle.std.specs.Prelude.{ℤ, pos, negsuc, neg_ℤ, unsigned_abs, int_div}
use Rattle.std.specs.Int.{cast_signed, cast_unsigned, int_wrap, int_wrapping_div, w64}
use Rattle.std.proofs.Math.Nat.{div-le_self, mod-eq_of_lt, div-zero}
use Rattle.raml_syntax.specs.Eval.{quotient}

-- by 0 the quotient is 0
pub quotient_is : (x y : ℤ) → quotient x y ≡ int_div x y
quotient_is (pos a) (pos zero) = ap pos (sym (div-zero a))
quotient_is (negsuc a) (pos zero) = ap (λ n. neg_ℤ (pos n)) (sym (div-zero (suc a)))
quotient_is x (pos (suc b)) = refl
quotient_is x (negsuc b) = refl

abs_neg : (n : ℕ) → unsigned_abs (neg_ℤ (pos n)) ≡ n
abs_neg zero = refl
abs_neg (suc n) = refl

abs_div : (x y : ℤ) → unsigned_abs (int_div x y) ≤ unsigned_abs x
abs_div (pos a) (pos b) = div-le_self a b
abs_div (pos a) (negsuc b) = let e = abs_neg (a / suc b) in omega (arith, e, div-le_self a (suc b))
abs_div (negsuc a) (pos b) = let e = abs_neg (suc a / b) in omega (arith, e, div-le_self (suc a) b)
abs_div (negsuc a) (negsuc b) = div-le_self (suc a) (suc b)

wrapped : (z : ℤ) → unsigned_abs z < 2 ^ 64 → cast_signed w64 (cast_unsigned w64 z) ≡ int_wrap w64 z
unfolding int_wrap
wrapped (pos n) h = ap (cast_signed w64) (sym (mod-eq_of_lt h))
wrapped (negsuc n) h =
    let small : n < 2 ^ 64 = omega (arith, h) in
    let rem : n % 2 ^ 64 ≡ n = mod-eq_of_lt small in
    let is : 2 ^ 64 - suc n ≡ 2 ^ 64 - 1 - n % 2 ^ 64 = omega (arith, rem) in
    ap (cast_signed w64) is

pub wrapping_div_is : (x y : ℤ) → unsigned_abs x < 2 ^ 64 → int_wrapping_div w64 x y ≡ int_wrap w64 (quotient x y)
wrapping_div_is x y h = wrapped (int_div x y) (omega (arith, h, abs_div x y)) ∙ ap (int_wrap w64) (sym (quotient_is x y))
