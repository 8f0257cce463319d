-- The value of a run of digits that may have `-` in front.
use Rattle.std.proofs.Common.{◌≡◌, ◌≤◌, ◌<◌, ◌+◌, ◌-◌, ◌*◌, ℕ, [], ◌∷◌, length, drop, get_or, arith}
use Rattle.raml_syntax.specs.Tree.{Text}
use Rattle.raml_lex.specs.Lexemes.{number_value}
use Rattle.raml_lex.proofs.Values.{value_from, value_step}

value_grows : (s : Text) (n : ℕ) → n ≤ value_from n s
value_grows [] n = omega arith
value_grows (c ∷ s) n = let p = value_grows s (n * 10 + (c - 48)) in omega (arith, p)

-- a value that is too great stays so
pub too_great : (s : Text) (n i x : ℕ) → i < length s → value_from n (drop i s) ≡ number_value s → x ≡ get_or s i 0 - 48 → 9223372036854775808 < n * 10 + x → 9223372036854775808 < number_value s
too_great s n i x l e q g =
    let step = value_step s n i x l e q in
    let grows = value_grows (drop (i + 1) s) (n * 10 + x) in
    omega (arith, step, grows, g)
