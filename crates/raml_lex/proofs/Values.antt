-- The value of a run of digits, read from the left.
use Rattle.std.proofs.Common.{◌≡◌, ◌≤◌, ◌<◌, ◌+◌, ◌-◌, ◌*◌, ◌^◌, ℕ, [], ◌∷◌, length, drop, get_or, sym, ap, ◌∙◌, arith}
use Rattle.std.specs.Prelude.{fold}
use Rattle.std.proofs.lemmas.List.{at_drop_more}
use Rattle.raml_syntax.specs.Tree.{Text}
use Rattle.raml_lex.specs.Lexemes.{number_value}

-- the value of digits that stand behind some of value n
abbrev pub value_from : ℕ → Text → ℕ
value_from n s = fold (λ n c. n * 10 + (c - 48)) n s

value_grows : (s : Text) (n : ℕ) → n ≤ value_from n s
value_grows [] n = omega arith
value_grows (c ∷ s) n = let p = value_grows s (n * 10 + (c - 48)) in omega (arith, p)

pub value_step : (s : Text) (n i x : ℕ) → i < length s → value_from n (drop i s) ≡ number_value s → x ≡ get_or s i 0 - 48 → value_from (n * 10 + x) (drop (i + 1) s) ≡ number_value s
value_step s n i x l e q = ap (λ x. value_from (n * 10 + x) (drop (i + 1) s)) q ∙ sym (at_drop_more (value_from n) s i 0 l) ∙ e

-- a value that is too great stays so
pub too_great : (s : Text) (n i x : ℕ) → i < length s → value_from n (drop i s) ≡ number_value s → x ≡ get_or s i 0 - 48 → 9223372036854775807 < n * 10 + x → 2 ^ 63 ≤ number_value s
too_great s n i x l e q g =
    let step = value_step s n i x l e q in
    let grows = value_grows (drop (i + 1) s) (n * 10 + x) in
    omega (arith, step, grows, g)
